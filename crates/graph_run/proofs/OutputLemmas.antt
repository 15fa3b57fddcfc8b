-- What nodes write to an output.
use Rattle.std.proofs.Common.{◌≡◌, length, true, Option, arith, unsigned_abs, ◌==◌}
use Rattle.graph_run.proofs.Common.{length-map-range_with_len, ImageValue, description_of, BinsValue, histogram, valid_samples, and_parts, Node, Description, same_size, ObjectValue, Output, node_image, HaveSameSize}
use Rattle.std.specs.List.{count_by}
use Rattle.vx_base.specs.Statistics.{bin_of, is_bin}
use Rattle.graph_run.proofs.OperandLaws.{described_node}

-- there is a count for each bin
pub length-histogram : (bins : BinsValue) (a : ImageValue) → length (histogram bins a) ≡ bins.bins
length-histogram bins a =
    length-map-range_with_len
    (λ k. count_by (λ z. is_bin k (bin_of bins (unsigned_abs z))) (valid_samples a)) 0 bins.bins

-- descriptions of one size and format are one
pub same_description : (a b : Description) → same_size a b ≡ true → a.format ≡ b.format → a ≡ b
same_description a b size format =
    grind (arith, and_parts (a.width == b.width) (a.height == b.height) size)

-- an output keeps its description
pub description_kept :
    (n : Node) (output : Output) (a : ImageValue) (second : Option ObjectValue) (out : ImageValue)
    → HaveSameSize out a
    → description_of (node_image n output out.format a second) ≡ description_of out
description_kept n output a second out h = grind (arith, described_node, same_description)
