-- One row of a node's result.
use Rattle.std.proofs.Common.{◌≡◌, ℕ, ℤ, pos, ◌+◌, ◌-◌, ◌/◌, ◌<◌, ◌≤◌, true, List, refl, ◌∙◌, ap, arith, Option, Some, None, IfSome, int_div, ◌^◌}
use Rattle.node_rows.proofs.Common.{cases_Bool, Border, Format, Function, NotBits, ConvertDepth, Node, Output, Rectangle, has_pixel, meet_of, clamp, Description, ImageValue, IsImage, pixel_at, image_from, ConvolutionValue, ObjectValue, ImageObject, LutObject, ThresholdObject, ConvolutionObject, IsObject, from_one, from_two, formula_of_one, formula_of_two, lookup_result, threshold_result, sample_or_border, nine_around, convolution_result, window_valid, from_nine, from_matrix, formula_of_nine, image_of_one, node_image, at-made, at-made_outside, column_inside, both_inside, matrix_in, window_radius, AgreeInRows}
use Rattle.vx_base.specs.Image.{description_of}
use Rattle.vx_base.proofs.ImageLaws.{row_inside, places_decide}
use Rattle.node_rows.specs.Rows.{AreAlike, SecondsAgree}
use Rattle.node_rows.proofs.LookLaws.{nine_near, matrix_near, look_near}

-- ---- images that are made alike

width_alike : (a b : ImageValue) → AreAlike a b → a.width ≡ b.width
width_alike a b alike = ap (λ (d : Description). d.width) alike.description

height_alike : (a b : ImageValue) → AreAlike a b → a.height ≡ b.height
height_alike a b alike = ap (λ (d : Description). d.height) alike.description

-- functions that agree at a place, where it is valid
made_same : (width height : ℕ) (format : Format) (r : Rectangle) (f g : ℕ → ℕ → ℤ) (x y : ℕ)
    → x < width
    → y < height
    → (has_pixel r x y ≡ true → f x y ≡ g x y)
    → pixel_at (image_from width height format r f) x y
    ≡ pixel_at (image_from width height format r g) x y
made_same width height format r f g x y a b same =
    grind (
      arith,
      at-made width height format r f x y a b,
      at-made width height format r g x y a b,
      at-made_outside width height format r f x y a b,
      at-made_outside width height format r g x y a b,
      cases_Bool (has_pixel r x y),
    )

made_row : (a b : ImageValue) (format : Format) (r s : Rectangle) (f g : ℕ → ℕ → ℤ) (x y : ℕ)
    → AreAlike a b
    → r ≡ s
    → x < a.width
    → y < a.height
    → (has_pixel r x y ≡ true → f x y ≡ g x y)
    → pixel_at (image_from a.width a.height format r f) x y
    ≡ pixel_at (image_from b.width b.height format s g) x y
made_row a b format r s f g x y alike rectangles left high same =
    cc (
      made_same a.width a.height format r f g x y left high same,
      width_alike a b alike,
      height_alike a b alike,
    )

-- ---- agreement

pub agree_fewer : (above first last below : ℕ) (a b : ImageValue)
    → above ≤ first
    → last ≤ below
    → AgreeInRows above below a b
    → AgreeInRows first last a b
agree_fewer above first last below a b from to agree = record {
  alike = agree.alike;
  samples = λ x y i j k l. agree.samples x y i j (omega arith) (omega arith);
}

pub agree_in_all : (a b : ImageValue) → IsImage a → IsImage b → AgreeInRows 0 a.height a b → a ≡ b
agree_in_all a b p q agree =
    places_decide a b p q (width_alike a b agree.alike) (height_alike a b agree.alike)
    (ap (λ (d : Description). d.format) agree.alike.description) agree.alike.valid
    (λ x y i j. agree.samples x y i j (omega arith) (omega arith))

agree_itself : (first last : ℕ) (a : ImageValue) → AgreeInRows first last a a
agree_itself first last a = record {
  alike = record { description = refl; valid = refl };
  samples = λ x y i j k l. refl;
}

-- second operands that agree in some rows agree in fewer of them
elsewhere_fewer : (above first last below : ℕ) (second other : Option ObjectValue)
    → above ≤ first
    → last ≤ below
    → SecondsAgree above below second other
    → SecondsAgree first last second other
elsewhere_fewer above first last below (Some (ImageObject a)) (Some (ImageObject b)) from to agree =
    agree_fewer above first last below a b from to agree
elsewhere_fewer above first last below second other from to same = same

-- rows that are near row y, and row y itself
here : (rows y : ℕ) (a b : ImageValue) → AgreeInRows (y - rows) (y + rows) a b → AgreeInRows y y a b
here rows y a b agree = agree_fewer (y - rows) y y (y + rows) a b (omega arith) (omega arith) agree

-- those that a function looks at
within_reach : (rows far y : ℕ) (a b : ImageValue)
    → Some far ≡ Some rows
    → AgreeInRows (y - rows) (y + rows) a b
    → AgreeInRows (y - far) (y + far) a b
within_reach rows far y a b is agree =
    let e : far ≡ rows = cc in
    agree_fewer (y - rows) (y - far) (y + far) (y + rows) a b (omega arith) (omega arith) agree

-- ---- a row of each kind of image

module _ (format : Format) (a b : ImageValue) where
  one_row : (f : ℤ → ℤ) (x y : ℕ)
      → AgreeInRows y y a b
      → x < a.width
      → y < a.height
      → pixel_at (from_one format f a) x y ≡ pixel_at (from_one format f b) x y
  one_row f x y agree left high =
      made_row a b format a.valid b.valid (λ u v. f (pixel_at a u v))
      (λ u v. f (pixel_at b u v)) x y agree.alike agree.alike.valid left high
      (λ h. ap f (agree.samples x y left high (omega arith) (omega arith)))

  two_row : (f : ℤ → ℤ → ℤ) (c d : ImageValue) (x y : ℕ)
      → IsImage c
      → AgreeInRows y y a b
      → AgreeInRows y y c d
      → x < a.width
      → y < a.height
      → pixel_at (from_two format f a c) x y ≡ pixel_at (from_two format f b d) x y
  two_row f c d x y image agree elsewhere left high =
      made_row a b format (meet_of a.valid c.valid) (meet_of b.valid d.valid)
      (λ u v. f (pixel_at a u v) (pixel_at c u v)) (λ u v. f (pixel_at b u v) (pixel_at d u v))
      x y agree.alike
      (ap (λ r. meet_of r c.valid) agree.alike.valid
      ∙ ap (λ r. meet_of b.valid r) elsewhere.alike.valid)
      left high
      (λ h. let place = (both_inside a.valid c.valid x y h).1 in
      let column : x < c.width = column_inside c.valid c.width c.height x y image.room place in
      let row : y < c.height = row_inside c.valid c.width c.height x y image.room place in
      ap (λ z. f z (pixel_at c x y)) (agree.samples x y left high (omega arith) (omega arith))
      ∙ ap (λ z. f (pixel_at b x y) z)
      (elsewhere.samples x y column row (omega arith) (omega arith)))

  nine_row : (f : List ℤ → ℤ) (border : Border) (x y : ℕ)
      → IsImage a
      → AgreeInRows (y - 1) (y + 1) a b
      → x < a.width
      → y < a.height
      → pixel_at (from_nine format f border a) x y ≡ pixel_at (from_nine format f border b) x y
  nine_row f border x y image agree left high =
      made_row a b format (window_valid border 1 1 a.valid) (window_valid border 1 1 b.valid)
      (λ u v. f (nine_around (sample_or_border a border) (pos u) (pos v)))
      (λ u v. f (nine_around (sample_or_border b border) (pos u) (pos v))) x y agree.alike
      (ap (window_valid border 1 1) agree.alike.valid) left high
      (λ h. ap f
      (nine_near (sample_or_border a border) (sample_or_border b border) (pos x) y
      (look_near a b border 1 1 1 x y image h agree)))

  -- a formula that gives 0 whatever the nine samples are
  zero_row : (border : Border) (x y : ℕ)
      → AreAlike a b
      → x < a.width
      → y < a.height
      → pixel_at (from_nine format (λ _. pos 0) border a) x y
      ≡ pixel_at (from_nine format (λ _. pos 0) border b) x y
  zero_row border x y alike left high =
      made_row a b format (window_valid border 1 1 a.valid) (window_valid border 1 1 b.valid)
      (λ _ _. pos 0) (λ _ _. pos 0) x y alike
      (ap (window_valid border 1 1) alike.valid) left high (λ h. refl)

  matrix_row : (c : ConvolutionValue) (border : Border) (x y : ℕ)
      → IsImage a
      → AgreeInRows (y - c.rows / 2) (y + c.rows / 2) a b
      → x < a.width
      → y < a.height
      → pixel_at (from_matrix format c border a) x y ≡ pixel_at (from_matrix format c border b) x y
  matrix_row c border x y image agree left high =
      made_row a b format (window_valid border (c.columns / 2) (c.rows / 2) a.valid)
      (window_valid border (c.columns / 2) (c.rows / 2) b.valid)
      (λ u v. convolution_result c format (sample_or_border a border) (pos u) (pos v))
      (λ u v. convolution_result c format (sample_or_border b border) (pos u) (pos v)) x y
      agree.alike
      (ap (window_valid border (c.columns / 2) (c.rows / 2)) agree.alike.valid) left high
      (λ h. ap (λ z. clamp format (int_div z (pos (2 ^ c.exponent))))
      (matrix_near c (sample_or_border a border) (sample_or_border b border) (pos x) y
      (look_near a b border (c.columns / 2) (c.rows / 2) (c.rows / 2) x y image h agree)))

-- ---- nodes

module _ (n : Node) (output : Output) (format : Format) (a b : ImageValue) where
  -- a function of one image, which looks this far
  one_image_row : (function : Function) (rows x y : ℕ)
      → window_radius function None ≡ Some rows
      → IsImage a
      → AgreeInRows (y - rows) (y + rows) a b
      → x < a.width
      → y < a.height
      → pixel_at (image_of_one function n output format a) x y
      ≡ pixel_at (image_of_one function n output format b) x y
  one_image_row NotBits rows x y far image agree left high =
      one_row format a b (formula_of_one NotBits format n.policy n.amount) x y
      (here rows y a b agree) left high
  one_image_row ConvertDepth rows x y far image agree left high =
      one_row format a b (formula_of_one ConvertDepth format n.policy n.amount) x y
      (here rows y a b agree) left high
  one_image_row function rows x y far image agree left high =
      let nine =
      λ (e : Some 1 ≡ Some rows). nine_row format a b (formula_of_nine function output) n.border
      x y image
      (within_reach rows 1 y a b e agree) left high in
      grind (arith, nine, zero_row format a b n.border x y agree.alike left high)

  -- with equal second operands
  same_elsewhere_row : (second : Option ObjectValue) (rows x y : ℕ)
      → IfSome second IsObject
      → window_radius n.function (matrix_in second) ≡ Some rows
      → IsImage a
      → AgreeInRows (y - rows) (y + rows) a b
      → x < a.width
      → y < a.height
      → pixel_at (node_image n output format a second) x y
      ≡ pixel_at (node_image n output format b second) x y
  same_elsewhere_row None rows x y object far image agree left high =
      one_image_row n.function rows x y far image agree left high
  same_elsewhere_row (Some (ImageObject c)) rows x y object far image agree left high =
      two_row format a b (formula_of_two n.function format n.policy n.amount) c c x y object
      (here rows y a b agree) (agree_itself y y c) left high
  same_elsewhere_row (Some (LutObject lut)) rows x y object far image agree left high =
      one_row format a b (lookup_result lut) x y (here rows y a b agree) left high
  same_elsewhere_row (Some (ThresholdObject threshold)) rows x y object far image agree left high =
      one_row format a b (threshold_result threshold) x y (here rows y a b agree) left high
  same_elsewhere_row (Some (ConvolutionObject matrix)) rows x y object far image agree left high =
      matrix_row format a b matrix n.border x y image
      (within_reach rows (matrix.rows / 2) y a b far agree) left high
  same_elsewhere_row (Some other) rows x y object far image agree left high =
      one_row format a b (λ _. pos 0) x y (here rows y a b agree) left high

  -- with second operands that are equal, or images that agree in the row
  pub node_row : (second other : Option ObjectValue) (rows x y : ℕ)
      → IfSome second IsObject
      → window_radius n.function (matrix_in second) ≡ Some rows
      → IsImage a
      → AgreeInRows (y - rows) (y + rows) a b
      → SecondsAgree y y second other
      → x < a.width
      → y < a.height
      → pixel_at (node_image n output format a second) x y
      ≡ pixel_at (node_image n output format b other) x y
  node_row (Some (ImageObject c)) (Some (ImageObject d)) rows x y object far image agree
      elsewhere left high =
      two_row format a b (formula_of_two n.function format n.policy n.amount) c d x y object
      (here rows y a b agree) elsewhere left high
  node_row second other rows x y object far image agree elsewhere left high =
      same_elsewhere_row second rows x y object far image agree left high
      ∙ ap (λ (o : Option ObjectValue). pixel_at (node_image n output format b o) x y) elsewhere

-- ---- size, format and rectangle of a node's output

-- as wide and high as the first input
abbrev sized : Format → ImageValue → Description
sized format a = record { width = a.width; height = a.height; format = format }

pub node_description :
    (n : Node) (output : Output) (format : Format) (a : ImageValue) (second : Option ObjectValue)
    → description_of (node_image n output format a second) ≡ sized format a
node_description n output format a second = grind arith

module _ (n : Node) (output : Output) (format : Format) (a b : ImageValue)
    (alike : AreAlike a b) where
  pub node_alike : (second other : Option ObjectValue) (first last : ℕ)
      → SecondsAgree first last second other
      → AreAlike (node_image n output format a second) (node_image n output format b other)
  node_alike second other first last elsewhere = grind arith

-- ---- several rows

pub node_rows :
    (n : Node) (output : Output) (format : Format) (a b : ImageValue)
    (second other : Option ObjectValue) (rows first last : ℕ)
    → IsImage a
    → IfSome second IsObject
    → window_radius n.function (matrix_in second) ≡ Some rows
    → AgreeInRows (first - rows) (last + rows) a b
    → SecondsAgree first last second other
    → AgreeInRows first last (node_image n output format a second)
    (node_image n output format b other)
node_rows n output format a b second other rows first last image object far agree elsewhere =
    record {
      alike = node_alike n output format a b agree.alike second other first last elsewhere;
      samples = λ x y left high from to.
          let d : description_of (node_image n output format a second) ≡ sized format a =
          node_description n output format a second in
          let wide : (node_image n output format a second).width ≡ a.width =
          ap (λ (e : Description). e.width) d in
          let tall : (node_image n output format a second).height ≡ a.height =
          ap (λ (e : Description). e.height) d in
          node_row n output format a b second other rows x y object far image
          (agree_fewer (first - rows) (y - rows) (y + rows) (last + rows) a b (omega arith)
          (omega arith) agree)
          (elsewhere_fewer first y y last second other from to elsewhere)
          (omega arith) (omega arith);
    }
