-- A text is read as a picture exactly if it encodes it.
use Rattle.std.proofs.Common.{arith, ◌≡◌, ℕ, ℤ, pos, zero, suc, ◌+◌, ◌*◌, ◌⊎◌, inl, inr, Bool, true, false, ◌≢◌, if◌then◌else◌, nat_lt, List, [], ◌∷◌, ◌++◌, length, map, Option, Some, None, Result, Ok, Err, IsTrue, refl, ap, sym, subst, ◌∙◌, append_assoc, append-nil, lt-ltb, le-ltb}
use Rattle.pgm_images.proofs.Common.{option_map, cases_eq, cases_lt, nat_tests, Description, is_side, sample_count, PictureValue, PgmFault, Encoding, Plain, Raw, BeginsWith, is_space, begins_digit, take_next, HeaderValue, take_header, is_maxval, format_up_to, header_description, take_count, take_short_sample, take_long_sample, take_raw, nothing_left, numbers_in, samples_up_to, all_up_to, picture_with, picture_under, picture_after, read_result, fault_of, fault, AreSpaced, Encodes, IsHeader}
use Rattle.pgm_images.specs.Header.{past_header, take_magic, take_numbers}
use Rattle.vx_base.specs.Description.{IsDescription}
use Rattle.pgm_images.specs.declared.fault.PgmFault.TheVariants.{NoMemory}
use Rattle.pgm_images.specs.Grammar.{ArePairs, IsRaster, IsPlainText, IsRawText, EndsHeader, magic}
use Rattle.pgm_images.proofs.RasterLemmas.{bytes-many, bytes-other}
use Rattle.pgm_images.proofs.ReadingLemmas.{same_pair, then_some, map_some, if_some, samples_of, numbers_size}
use Rattle.pgm_images.proofs.GapLemmas.{space_is, blanks_no_digit}
use Rattle.pgm_images.proofs.SpacedLemmas.{spaced_of, spaced_next, spaced_no_digit, many_spaced, spaced_many}

-- ---- rasters

bytes_of : (count : ℕ) (bytes numbers : List ℕ)
    → take_count take_short_sample nothing_left count bytes ≡ Some numbers
    → bytes ≡ numbers
bytes_of count bytes numbers e = elim (cases_eq (length bytes) count) [
  | inl same ↦ cc (bytes-many count bytes same)
  | inr other ↦ cc (bytes-other count bytes other)
]

pairs_of : (count : ℕ) (bytes numbers : List ℕ)
    → take_count take_long_sample nothing_left count bytes ≡ Some numbers
    → ArePairs bytes numbers
pairs_of zero [] numbers e = let none : [] ≡ numbers = cc in subst (ArePairs []) none refl
pairs_of zero (b ∷ bytes) numbers e = cc
pairs_of (suc count) [] numbers e = cc
pairs_of (suc count) (a ∷ []) numbers e = cc
pairs_of (suc count) (a ∷ b ∷ bytes) numbers e =
    let (others, many, same) =
    map_some (λ others. (256 * a + b) ∷ others)
    (take_count take_long_sample nothing_left count bytes) numbers e in
    subst (ArePairs (a ∷ b ∷ bytes)) same (
      a,
      b,
      bytes,
      refl,
      refl,
      pairs_of count bytes others many,
    )

pairs-many : (numbers bytes : List ℕ)
    → ArePairs bytes numbers
    → take_count take_long_sample nothing_left (length numbers) bytes ≡ Some numbers
pairs-many [] bytes are = rw are refl
pairs-many (n ∷ numbers) bytes (a, b, rest, spelled, is, are) =
    rw (spelled, pairs-many numbers rest are, is) refl

raw_many : (maxval count : ℕ) (bytes : List ℕ) (narrow : Bool) → nat_lt maxval 256 ≡ narrow
    → take_count (take_raw maxval) nothing_left count bytes
    ≡ take_count (λ text. if narrow then take_short_sample text else take_long_sample text)
    nothing_left count bytes
raw_many maxval count bytes narrow e =
    ap
    (λ b. take_count (λ text. if b then take_short_sample text else take_long_sample text)
    nothing_left count bytes)
    e

pub raster_of : (maxval count : ℕ) (bytes numbers : List ℕ)
    → take_count (take_raw maxval) nothing_left count bytes ≡ Some numbers
    → IsRaster maxval bytes numbers
raster_of maxval count bytes numbers e = elim (cases_lt maxval 256) [
  | inl low ↦
      inl (
        low,
        bytes_of count bytes numbers
            (sym (raw_many maxval count bytes true (lt-ltb maxval 256 low)) ∙ e),
      )
  | inr high ↦
      inr (
        high,
        pairs_of count bytes numbers
            (sym (raw_many maxval count bytes false (le-ltb maxval 256 high)) ∙ e),
      )
]

pub raster_many : (maxval : ℕ) (bytes numbers : List ℕ)
    → IsRaster maxval bytes numbers
    → take_count (take_raw maxval) nothing_left (length numbers) bytes ≡ Some numbers
raster_many maxval bytes numbers (inl (low, same)) =
    raw_many maxval (length numbers) bytes true (lt-ltb maxval 256 low)
    ∙ ap (take_count take_short_sample nothing_left (length numbers)) same
    ∙ bytes-many (length numbers) numbers refl
raster_many maxval bytes numbers (inr (high, are)) =
    raw_many maxval (length numbers) bytes false (le-ltb maxval 256 high)
    ∙ pairs-many numbers bytes are

-- ---- headers

abbrev header : Encoding → ℕ → ℕ → ℕ → HeaderValue
header encoding w h m = record { encoding = encoding; width = w; height = h; maxval = m }

abbrev ended : Encoding → ℕ → ℕ → ℕ → List ℕ → BeginsWith HeaderValue
ended encoding w h m rest =
    option_map (λ rest. (header encoding w h m, rest)) (past_header encoding rest)

pub numbers_back : (encoding : Encoding) (w h m : ℕ) (samples body rest : List ℕ)
    → AreSpaced body (w ∷ h ∷ m ∷ samples)
    → begins_digit rest ≡ false
    → (more : List ℕ)
    × AreSpaced more samples
    × (take_numbers encoding (body ++ rest) ≡ ended encoding w h m (more ++ rest))
numbers_back encoding w h m samples body rest (a, body1, is_a, are1, at_a) none =
    let (b, body2, is_b, are2, at_b) = are1 in
    let (c, more, is_c, are, at_c) = are2 in
    let none1 = spaced_no_digit (h ∷ m ∷ samples) body1 rest are1 none in
    let none2 = spaced_no_digit (m ∷ samples) body2 rest are2 none in
    let none3 = spaced_no_digit samples more rest are none in
    let taken1 : take_next (body ++ rest) ≡ Some (w, body1 ++ rest) =
    rw (at_a, append_assoc a body1 rest) (spaced_next a (body1 ++ rest) w is_a none1) in
    let taken2 : take_next (body1 ++ rest) ≡ Some (h, body2 ++ rest) =
    rw (at_b, append_assoc b body2 rest) (spaced_next b (body2 ++ rest) h is_b none2) in
    let taken3 : take_next (body2 ++ rest) ≡ Some (m, more ++ rest) =
    rw (at_c, append_assoc c more rest) (spaced_next c (more ++ rest) m is_c none3) in
    (more, are, rw (taken1, taken2, taken3) refl)

two_bytes : (a b : ℕ) (text : List ℕ) (encoding : Encoding) (rest : List ℕ)
    → take_magic (a ∷ b ∷ text) ≡ Some (encoding, rest)
    → a ∷ b ∷ text ≡ 80 ∷ magic encoding ∷ rest
two_bytes a b text encoding rest e = grind (arith, nat_tests)

pub magic_of : (text : List ℕ) (encoding : Encoding) (rest : List ℕ)
    → take_magic text ≡ Some (encoding, rest)
    → text ≡ 80 ∷ magic encoding ∷ rest
magic_of [] encoding rest e = cc
magic_of (a ∷ []) encoding rest e = cc
magic_of (a ∷ b ∷ text) encoding rest e = two_bytes a b text encoding rest e

pub past_raw : (middle rest : List ℕ)
    → past_header Raw middle ≡ Some rest
    → (space : ℕ) × (is_space space ≡ true) × (middle ≡ space ∷ rest)
past_raw [] rest e = cc
past_raw (b ∷ middle) rest e =
    let (is, same) = if_some (is_space b) middle rest e in (b, is, ap (λ l. b ∷ l) same)

ends_of : (encoding : Encoding) (middle rest : List ℕ)
    → past_header encoding middle ≡ Some rest
    → begins_digit middle ≡ false
    → EndsHeader encoding middle rest
ends_of Plain middle rest e none =
    let same : middle ≡ rest = cc in (same, ap begins_digit (sym same) ∙ none)
ends_of Raw middle rest e none = past_raw middle rest e

-- what is taken is a header
pub header_of : (text : List ℕ) (value : HeaderValue) (rest : List ℕ)
    → take_header text ≡ Some (value, rest)
    → IsHeader text value rest
header_of text value rest e =
    let (encoding, t, is_magic, e0) = then_some (take_magic text) take_numbers (value, rest) e in
    let (w, rest1, is_w, e1) = then_some (take_next t) _ _ e0 in
    let (h, rest2, is_h, e2) = then_some (take_next rest1) _ _ e1 in
    let (m, rest3, is_m, e3) = then_some (take_next rest2) _ _ e2 in
    let (others, past, same) =
    map_some (λ (rest : List ℕ). (header encoding w h m, rest)) (past_header encoding rest3)
    (value, rest) e3 in
    let (is, behind) = same_pair (header encoding w h m) value others rest same in
    let (a, spaced_a, at_a, none_a) = spaced_of t w rest1 is_w in
    let (b, spaced_b, at_b, none_b) = spaced_of rest1 h rest2 is_h in
    let (c, spaced_c, at_c, none) = spaced_of rest2 m rest3 is_m in
    let long : t ≡ (a ++ (b ++ (c ++ []))) ++ rest3 =
    at_a ∙ ap (λ l. a ++ l) (at_b ∙ ap (λ l. b ++ l) at_c) ∙ simp append_assoc in
    subst (λ v. IsHeader text v rest) is (record {
      body = a ++ (b ++ (c ++ []));
      after = rest3;
      numbers = (
        a,
        b ++ (c ++ []),
        spaced_a,
        (b, c ++ [], spaced_b, (c, [], spaced_c, refl, refl), refl),
        refl,
      );
      end = ends_of encoding rest3 rest (past ∙ ap Some behind) none;
      spelled = magic_of text encoding t is_magic ∙ ap (λ l. 80 ∷ magic encoding ∷ l) long;
    })

-- and a header is taken
taken : (encoding : Encoding) (w h m : ℕ) (text rest : List ℕ)
    → IsHeader text (header encoding w h m) rest
    → take_header text ≡ Some (header encoding w h m, rest)
taken Plain w h m text rest is =
    let (same, none) = is.end in
    let (more, are, found) =
    numbers_back Plain w h m [] is.body is.after is.numbers (rw same none) in
    rw (is.spelled, found, are, same) refl
taken Raw w h m text rest is =
    let (space, white, same) = is.end in
    let (more, are, found) =
    numbers_back Raw w h m [] is.body is.after is.numbers (rw same (space_is space white).1) in
    rw (is.spelled, found, are, same, white) refl

pub header_back : (text : List ℕ) (value : HeaderValue) (rest : List ℕ)
    → IsHeader text value rest
    → take_header text ≡ Some (value, rest)
header_back text value rest is =
    taken value.encoding value.width value.height value.maxval text rest is

-- ---- descriptions and pictures

abbrev sized : ℕ → ℕ → ℕ → Description
sized w h m = record { width = w; height = h; format = format_up_to m }

described_of : (w h m : ℕ) (d : Description)
    → header_description w h m ≡ Ok d
    → (is_side w ≡ true) × (is_side h ≡ true) × (is_maxval m ≡ true) × (sized w h m ≡ d)
described_of w h m d e = grind arith

pub headed : (t : BeginsWith HeaderValue) (p : PictureValue) → picture_after t ≡ Ok p
    → (value : HeaderValue)
    × (rest : List ℕ)
    × (t ≡ Some (value, rest))
    × (picture_under value (header_description value.width value.height value.maxval) rest ≡ Ok p)
headed None p e = cc
headed (Some taken) p e = (taken.0, taken.1, refl, e)

pub pictured :
    (value : HeaderValue) (r : Result Description PgmFault) (rest : List ℕ) (p : PictureValue)
    → picture_under value r rest ≡ Ok p
    → (d : Description)
    × (r ≡ Ok d)
    ×
    (picture_with d
    (samples_up_to value.maxval (numbers_in value.encoding value.maxval (sample_count d) rest))
    ≡ Ok p)
pictured value (Ok d) rest p e = (d, refl, e)
pictured value (Err fault) rest p e = cc

pub sampled : (d : Description) (r : Result (List ℤ) PgmFault) (p : PictureValue)
    → picture_with d r ≡ Ok p
    → (samples : List ℤ) × (r ≡ Ok samples) × (record { description = d; samples = samples } ≡ p)
sampled d (Ok samples) p e = (samples, refl, cc)
sampled d (Err fault) p e = cc

-- ---- what is read is encoded by the text

appended : (body more numbers others : List ℕ)
    → AreSpaced body numbers
    → AreSpaced more others
    → AreSpaced (body ++ more) (numbers ++ others)
appended body more [] others none after = rw none after
appended body more (n ∷ numbers) others (first, rest, is, are, spelled) after = (
  first,
  rest ++ more,
  is,
  appended rest more numbers others are after,
  ap (λ l. l ++ more) spelled ∙ append_assoc first rest more,
)

encoded_of : (encoding : Encoding) (w h m count : ℕ) (text rest numbers : List ℕ)
    → IsHeader text (header encoding w h m) rest
    → numbers_in encoding m count rest ≡ Some numbers
    → IsPlainText text w h m numbers ⊎ IsRawText text w h m numbers
encoded_of Plain w h m count text rest numbers is e =
    let (body, end, are, blanks, behind) = spaced_many count rest numbers e in
    inl (record {
      body = is.body ++ body;
      end = end;
      numbers = appended is.body body (w ∷ h ∷ m ∷ []) numbers is.numbers are;
      blanks = blanks;
      spelled = is.spelled ∙ ap (λ l. 80 ∷ 50 ∷ (is.body ++ l)) (is.end.0 ∙ behind)
          ∙ ap (λ l. 80 ∷ 50 ∷ l) (sym (append_assoc is.body body end));
    })
encoded_of Raw w h m count text rest numbers is e =
    let (space, white, same) = is.end in
    inr (record {
      body = is.body;
      space = space;
      raster = rest;
      numbers = is.numbers;
      white = white;
      bytes = raster_of m count rest numbers e;
      spelled = is.spelled ∙ ap (λ l. 80 ∷ 53 ∷ (is.body ++ l)) same;
    })

pub stands_read : (text : List ℕ) (p : PictureValue) → read_result text ≡ Ok p → Encodes text p
stands_read text p e =
    let (value, rest, is_header, e1) = headed (take_header text) p e in
    let (d, is_described, e2) =
    pictured value (header_description value.width value.height value.maxval) rest p e1 in
    let (samples, is_samples, is_p) =
    sampled d
    (samples_up_to value.maxval (numbers_in value.encoding value.maxval (sample_count d) rest))
    p e2 in
    let (wide, high, allowed, is_d) =
    described_of value.width value.height value.maxval d is_described in
    let (numbers, is_numbers, below, are) =
    samples_of value.maxval (numbers_in value.encoding value.maxval (sample_count d) rest)
    samples is_samples in
    let made :
    Encodes text
    (record { description = sized value.width value.height value.maxval; samples = samples }) =
    record {
      maxval = value.maxval;
      numbers = numbers;
      encoded = encoded_of value.encoding value.width value.height value.maxval
          (sample_count d) text rest numbers (header_of text value rest is_header) is_numbers;
      sides = record { width = wide; height = high };
      allowed = allowed;
      format = refl;
      size =
          numbers_size value.encoding value.maxval (sample_count d) rest numbers is_numbers
          ∙ ap sample_count (sym is_d);
      below = below;
      samples = are;
    } in
    subst (Encodes text)
    (ap (λ (x : Description). record { description = x; samples = samples }) is_d ∙ is_p) made

-- ---- what a text encodes is read

described_back : (d : Description) (maxval : ℕ)
    → IsDescription d
    → IsTrue (is_maxval maxval)
    → d.format ≡ format_up_to maxval
    → header_description d.width d.height maxval ≡ Ok d
described_back d maxval is allowed same = rw (is.width, is.height, allowed) (rw (sym same) refl)

samples_back : (maxval : ℕ) (o : Option (List ℕ)) (numbers : List ℕ) (samples : List ℤ)
    → o ≡ Some numbers
    → all_up_to maxval numbers ≡ true
    → samples ≡ map pos numbers
    → samples_up_to maxval o ≡ Ok samples
samples_back maxval o numbers samples is below are =
    ap (samples_up_to maxval) is ∙ rw below (ap Ok (sym are))

-- a text whose header was taken, and whose numbers are in what follows
read_from :
    (text : List ℕ) (p : PictureValue) (s : Encodes text p) (encoding : Encoding) (rest : List ℕ)
    → take_header text
    ≡ Some (header encoding p.description.width p.description.height s.maxval, rest)
    → numbers_in encoding s.maxval (length s.numbers) rest ≡ Some s.numbers
    → read_result text ≡ Ok p
read_from text p s encoding rest is_header is_numbers =
    let d = p.description in
    rw (
      is_header,
      described_back d s.maxval s.sides s.allowed s.format,
      ← s.size,
      is_numbers,
      s.below,
      s.samples,
    ) refl

plain_read : (text : List ℕ) (p : PictureValue) (s : Encodes text p)
    → IsPlainText text p.description.width p.description.height s.maxval s.numbers
    → read_result text ≡ Ok p
plain_read text p s is =
    let d = p.description in
    let none : begins_digit is.end ≡ false =
    ap begins_digit (sym (append-nil is.end)) ∙ blanks_no_digit is.end [] is.blanks refl in
    let (more, are, taken) =
    numbers_back Plain d.width d.height s.maxval s.numbers is.body is.end is.numbers none in
    read_from text p s Plain (more ++ is.end) (ap take_header is.spelled ∙ taken)
    (many_spaced s.numbers more is.end are is.blanks)

raw_read : (text : List ℕ) (p : PictureValue) (s : Encodes text p)
    → IsRawText text p.description.width p.description.height s.maxval s.numbers
    → read_result text ≡ Ok p
raw_read text p s is =
    let d = p.description in
    let begins : IsHeader text (header Raw d.width d.height s.maxval) is.raster =
    record {
      body = is.body;
      after = is.space ∷ is.raster;
      numbers = is.numbers;
      end = (is.space, is.white, refl);
      spelled = is.spelled;
    } in
    read_from text p s Raw is.raster (taken Raw d.width d.height s.maxval text is.raster begins)
    (raster_many s.maxval is.raster s.numbers is.bytes)

pub read_stands : (text : List ℕ) (p : PictureValue) → Encodes text p → read_result text ≡ Ok p
read_stands text p s = elim s.encoded [
  | inl is ↦ plain_read text p s is
  | inr is ↦ raw_read text p s is
]

-- ---- faults

pub no_fault : (text : List ℕ) → fault text ≡ None → (p : PictureValue) × Encodes text p
no_fault text e = known (read_result text) refl e
  where
    known : (r : Result PictureValue PgmFault)
        → read_result text ≡ r
        → fault_of r ≡ None
        → (p : PictureValue) × Encodes text p
    known (Ok p) is e = (p, stands_read text p is)
    known (Err f) is e = cc

-- want of memory is no fault of a text

header_faults : (value : HeaderValue) (rest : List ℕ)
    → fault_of
    (picture_under value (header_description value.width value.height value.maxval) rest) ≢ Some
    NoMemory
header_faults value rest = λ e. grind arith

memory_faults : (t : BeginsWith HeaderValue) → fault_of (picture_after t) ≢ Some NoMemory
memory_faults None = λ e. cc
memory_faults (Some taken) = header_faults taken.0 taken.1

pub memory_faultless : (text : List ℕ) → fault text ≢ Some NoMemory
memory_faultless text = memory_faults (take_header text)

pub ruleset faults = (no_fault, memory_faultless)
