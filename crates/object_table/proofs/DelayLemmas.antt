-- Delays: images of one description.
use Rattle.std.proofs.Common.{◌≡◌, ℕ, ◌*◌, ◌≤◌, List, [], ◌∷◌, length, map, refl, arith, sum_by, All, IsTrue}
use Rattle.object_table.proofs.Common.{AllPairs, nat_tests, length-map, get_or-map, All-head, All-tail, sum_by-cons, Description, ImageValue, IsImage, new_image, description_of, IsDelay, image_bytes, new_image_is, new_delay, All-replicate, IsDescription, byte_count, length-replicate}
use Rattle.vx_base.specs.Slots.{is_slot_count}

-- images of one description take as many bytes as one of them, times their number
pub bytes_alike : (d : Description) (images : List ImageValue)
    → All (λ image. description_of image ≡ d) images
    → sum_by image_bytes images ≡ length images * byte_count d
bytes_alike d [] h = omega arith
bytes_alike d (image ∷ images) h =
    grind (
      arith,
      bytes_alike d images (All-tail (λ i. description_of i ≡ d) image images h),
      All-head (λ i. description_of i ≡ d) image images h,
      All-tail (λ i. description_of i ≡ d) image images h,
      sum_by-cons image_bytes image images,
    )

-- images of one description are alike, any two of them
pub alike : (d : Description) (images : List ImageValue)
    → All (λ image. description_of image ≡ d) images
    → AllPairs (λ a b. a ≡ b) (map description_of images)
alike d images h i j default less within =
    let each = λ (k : ℕ). h k (new_image 0 0 d.format) in
    let made = λ (k : ℕ). get_or-map description_of images k (new_image 0 0 d.format) default in
    grind (arith, length-map images description_of, each i, each j, made i, made j)

pub count_is : (n : ℕ) → IsTrue (is_slot_count n) → (1 ≤ n) × (n ≤ 16)
count_is n h = grind (arith, nat_tests, h)

-- a new delay is one
pub new_delay_is : (d : Description) (slots : ℕ)
    → IsDescription d
    → 1 ≤ slots
    → slots ≤ 16
    → IsDelay (new_delay d slots)
new_delay_is d slots sides least greatest =
    let new = new_image d.width d.height d.format in
    record {
      least = omega (arith, least, length-replicate slots new);
      greatest = omega (arith, greatest, length-replicate slots new);
      each =
          All-replicate IsImage slots new
          (new_image_is d.width d.height d.format sides.width sides.height);
      alike =
          alike d (new_delay d slots)
          (All-replicate (λ image. description_of image ≡ d) slots new refl);
    }
