use Rattle.std.proofs.Common.{◌≡◌, nat_le, true, false, refl, ap, arith, ◌∙◌, le-leb}
use Rattle.pgm_images.proofs.Common.{all_up_to, samples_up_to}
use Rattle.std.proofs.lemmas.Bool.{lt-leb}
use Rattle.pgm_images.proofs.RasterLemmas.{bytes-many, bytes-other, bytes_low, bytes_read}
use Rattle.pgm_images.proofs.raster.read_bytes.Goals as goal

pub returns-then-bytes-samples : goal.returns-then-bytes-samples
returns-then-bytes-samples c = record {
  ok = tt;
  err = ap (samples_up_to c.args.maxval) (bytes-other _ c.args.bytes.now (omega arith));
}

pub returns-then-from-maxval : goal.returns-then-from-maxval
returns-then-from-maxval c =
    let above : nat_le c.greatest_byte.result c.args.maxval ≡ false =
    lt-leb c.greatest_byte.result c.args.maxval (omega arith) in
    let told : all_up_to c.args.maxval c.args.bytes.now ≡ false =
    cc (c.greatest_byte.ensures c.args.maxval) in
    record {
      ok = tt;
      err =
          ap (samples_up_to c.args.maxval) (bytes-many _ c.args.bytes.now (omega arith))
          ∙ rw told refl;
    }

pub returns-then-maxval-ge255 : goal.returns-then-maxval-ge255
returns-then-maxval-ge255 c =
    bytes_read c.args.maxval _ c.args.bytes.now _ _ (omega arith)
    c.copy_from_slice.ensures.after
    (bytes_low c.args.maxval c.args.bytes.now (omega arith) c.type_inv.bytes)

pub returns : goal.returns
returns c =
    let below : nat_le c.greatest_byte.result c.args.maxval ≡ true =
    le-leb c.greatest_byte.result c.args.maxval (omega arith) in
    let told : all_up_to c.args.maxval c.args.bytes.now ≡ true =
    cc (c.greatest_byte.ensures c.args.maxval) in
    bytes_read c.args.maxval _ c.args.bytes.now _ _ (omega arith)
    c.copy_from_slice.ensures.after told
