-- The PGM text of a U8 picture.
use Rattle.std.specs.Prelude.{ℕ, List, ◌++◌, map, codes, decimal, unsigned_abs}
use Rattle.vx_base.specs.Description.{Description}
use Rattle.vx_base.specs.Picture.{PictureValue}

-- `P5`, the width, the height and the maxval 255; the numbers have no leading zeros
abbrev pub written_header : Description → List ℕ
written_header d =
    codes "P5\n" ++ decimal d.width ++ codes " " ++ decimal d.height ++ codes "\n255\n"

-- the header, and then a byte for each sample, row by row from the top
abbrev pub pgm_text : PictureValue → List ℕ
pgm_text p = written_header p.description ++ map unsigned_abs p.samples
