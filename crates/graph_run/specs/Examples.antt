-- Small objects for the examples.
use Rattle.std.specs.Prelude.{ℕ, true, [], ◌∷◌, None, pos}
use Rattle.vx_base.specs.declared.format.Format.TheVariants.{U8, S16}
use Rattle.vx_base.specs.Object.{ImageObject, VirtualObject}
use Rattle.object_table.specs.NamedObject.{NamedObject}

-- a U8 image of one valid pixel
abbrev pub pixel : ℕ → ℕ → NamedObject
pixel name sample =
    record {
      name = name;
      live = true;
      object =
          ImageObject
          (record {
            width = 1;
            height = 1;
            format = U8;
            valid = record
                { x0 = 0; y0 = 0; x1 = 1; y1 = 1 };
            samples = pos sample ∷ [];
          });
    }

-- an S16 image of one valid pixel
abbrev pub short_pixel : ℕ → ℕ → NamedObject
short_pixel name sample =
    record {
      name = name;
      live = true;
      object =
          ImageObject
          (record {
            width = 1;
            height = 1;
            format = S16;
            valid = record
                { x0 = 0; y0 = 0; x1 = 1; y1 = 1 };
            samples = pos sample ∷ [];
          });
    }

-- a virtual image without a declared size or format
abbrev pub open_image : ℕ → NamedObject
open_image name =
    record {
      name = name;
      live = true;
      object =
          VirtualObject
          (record { graph = 4; declared = record { width = None; height = None; format = None } });
    }
