-- Extremes with their first pixels.
use Rattle.std.specs.Prelude.{ℕ, ℤ, ◌+◌, ◌==◌, Bool, List, map, if◌then◌else◌, int_lt}
use Rattle.std.specs.Ordering.{int_eq}
use Rattle.std.specs.Int.{int_min, int_max}
use Rattle.vx_base.specs.declared.extremes.Extremes.{Extremes}
use Rattle.vx_base.specs.Statistics.{best_of, count_of, first_of}
use Rattle.stat_kernels.specs.declared.extreme.Extreme.{Extreme}
use Rattle.stat_kernels.specs.declared.extreme.Found.{Found}

-- the sample that `choose` picks from the values of f at some pixels, the number of pixels with
-- this sample, and the first pixel with it
abbrev pub extreme_among : (ℤ → ℤ → ℤ) → (ℕ → ℕ → ℤ) → List (ℕ × ℕ) → Extreme
extreme_among choose f ps =
    let zs = map (λ p. f p.0 p.1) ps in
    record {
      value = best_of choose zs;
      count = count_of (best_of choose zs) zs;
      at = first_of f (best_of choose zs) ps;
    }

-- the least and the greatest value of f at some pixels
abbrev pub found_in : (ℕ → ℕ → ℤ) → List (ℕ × ℕ) → Found
found_in f ps = record { least = extreme_among int_min f ps; greatest = extreme_among int_max f ps }

-- the extreme of some pixels, merged with the extreme of later pixels
abbrev pub merge : (ℤ → ℤ → Bool) → Extreme → Extreme → Extreme
merge beyond a b =
    if b.count == 0 then a
    else if a.count == 0 then b
    else if beyond b.value a.value then b
    else if int_eq b.value a.value then record {
      value = a.value;
      count = a.count + b.count;
      at = a.at;
    }
    else a

-- the extremes of some pixels, merged with the extremes of later pixels
abbrev pub merge_found : Found → Found → Found
merge_found a b = record {
  least = merge int_lt a.least b.least;
  greatest = merge (λ z v. int_lt v z) a.greatest b.greatest;
}

-- the numbers of an `Extremes` record, as a `Found` record
abbrev pub found_of : Extremes → Found
found_of e =
    record {
      least = record { value = e.min; count = e.min_count; at = e.min_at };
      greatest = record { value = e.max; count = e.max_count; at = e.max_at };
    }

-- the numbers of a `Found` record, as an `Extremes` record
abbrev pub extremes_of : Found → Extremes
extremes_of f =
    record {
      min = f.least.value;
      max = f.greatest.value;
      min_count = f.least.count;
      max_count = f.greatest.count;
      min_at = f.least.at;
      max_at = f.greatest.at;
    }

-- the extreme, with its pixel moved down by `down` rows
abbrev pub shift_down : ℕ → Extreme → Extreme
shift_down down l = record l { at = (l.at.0, l.at.1 + down) }

-- both extremes, with their pixels moved down by `down` rows
abbrev pub shift_found : ℕ → Found → Found
shift_found down f = record {
  least = shift_down down f.least;
  greatest = shift_down down f.greatest;
}

-- the extremes of the rows above a band, merged with the band's extremes. Before the merge, the
-- pixels of the band's extremes are moved down by `down` rows.
abbrev pub added_extremes : ℕ → Extremes → Extremes → Extremes
added_extremes down e band =
    extremes_of (merge_found (found_of e) (shift_found down (found_of band)))
