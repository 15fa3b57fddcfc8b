use Rattle.std.proofs.Common.{◌∷◌, [], refl, sym}
use Rattle.lane_rows.proofs.MedianLaws.{median_is, median_is_middle, median_is_among}
use Rattle.window_kernels.proofs.laws.median_of_nine.Goals as goal

pub returns : goal.returns
returns c = record {
  among = median_is_among;
  fewer = λ a b c d e f g h i. (median_is_middle a b c d e f g h i).fewer;
  more = λ a b c d e f g h i. (median_is_middle a b c d e f g h i).more;
  one =
      λ a b c d e f g h i v low high. sym
      (median_is (a ∷ b ∷ c ∷ d ∷ e ∷ f ∷ g ∷ h ∷ i ∷ []) v refl
      (record { fewer = low; more = high }));
}
