-- Bytes that are written one piece after the other.
use Rattle.std.proofs.Common.{◌≡◌, ℕ, pos, List, [], ◌∷◌, ◌++◌, Option, Result, Ok, Err, ◌+◌, refl, sym, ap, ◌∙◌, append_assoc, map, arith, length-append, IfErr}
use Rattle.vx_requests.proofs.Common.{err_from_is_err_and, flat_map, Appends, Keeps, Appends-trans, Appends-kept, U8, StreamFault, WriteFailed, AppendsPart, Sends, encoded_sample}
use Rattle.std.specs.Result.{IsErrAnd}
use Rattle.std.proofs.lemmas.Grind.{flat_map-append}
use Rattle.vx_requests.specs.Stream.Calls.{failed_calls}
use Rattle.vx_requests.specs.Stream.Transfer.{WritesAll}
use Rattle.vx_requests.proofs.Pieces.{on_ok, on_err, part_front, whole_front}

-- the first of two pieces failed
pub AppendsPart-first : (a b : Option (List ℕ)) (x y : List ℕ)
    → AppendsPart a b x
    → AppendsPart a b (x ++ y)
AppendsPart-first a b x y (front, rest, e, some, appended) = (
  front,
  rest ++ y,
  ap (λ l. l ++ y) e ∙ append_assoc front rest y,
  omega (arith, length-append {A = ℕ}),
  appended,
)

-- the second of two pieces failed
pub AppendsPart-second : (a b c : Option (List ℕ)) (x y : List ℕ)
    → Appends a b x
    → AppendsPart b c y
    → AppendsPart a c (x ++ y)
AppendsPart-second a b c x y before (front, rest, e, some, appended) = (
  x ++ front,
  rest,
  ap (λ l. x ++ l) e ∙ sym (append_assoc x front rest),
  some,
  Appends-trans a b c x front before appended,
)

module _ {A : Type 0} (f : A → List ℕ) (a b c : Option (List ℕ))
    (all done rest front back : List A) where
  -- a block more was written
  pub block_more : all ≡ done ++ rest
      → rest ≡ front ++ back
      → Appends a b (flat_map f done)
      → Appends b c (flat_map f front)
      → (more : List A) × (all ≡ more ++ back) × Appends a c (flat_map f more)
  block_more e split before wrote = (
    done ++ front,
    rw (e, split, append_assoc),
    rw flat_map-append (Appends-trans a b c (flat_map f done) (flat_map f front) before wrote),
  )

  -- a block failed
  pub block_part : all ≡ done ++ rest
      → rest ≡ front ++ back
      → Appends a b (flat_map f done)
      → AppendsPart b c (flat_map f front)
      → AppendsPart a c (flat_map f all)
  block_part e split before wrote =
      rw (e, split, flat_map-append f done (front ++ back), flat_map-append f front back)
      (AppendsPart-second a b c (flat_map f done) (flat_map f front ++ flat_map f back) before
      (AppendsPart-first b c (flat_map f front) (flat_map f back) wrote))

module _ {K : Type 0} (taken : K → Option (List ℕ)) (failures : K → ℕ) where
  -- the first of two pieces failed
  pub Writes-first :
      {T U : Type 0} (a b : K) (x y both : List ℕ) (e : StreamFault) (result : Result U StreamFault)
      → IsErrAnd result (λ f. f ≡ e)
      → x ++ y ≡ both
      → WritesAll {T = T} taken failures a b x (Err e) → WritesAll taken failures a b both result
  Writes-first a b x y both e result exit joined wrote =
      let p = err_from_is_err_and result exit in
      rw (p.1, p.2, ← joined) (assumption (AppendsPart-first (taken a) (taken b) x y wrote.err))

  -- the second of two pieces was written, or failed
  pub Writes-then :
      {T U : Type 0} (a b c : K) (x y both : List ℕ) (u : T) (result : Result U StreamFault)
      → x ++ y ≡ both
      → WritesAll {T = T} taken failures a b x (Ok u)
      → WritesAll {T = U} taken failures b c y result
      → WritesAll taken failures a c both result
  Writes-then a b c x y both u (Ok v) joined before wrote =
      let failed : failures c ≡ failures a + 0 = omega (arith, before.failed, wrote.failed) in
      rw (← joined)
      (assumption (Appends-trans (taken a) (taken b) (taken c) x y before.ok wrote.ok))
  Writes-then a b c x y both u (Err e) joined before wrote =
      let failed : failures c ≡ failures a + 1 = omega (arith, before.failed, wrote.failed) in
      rw (← joined)
      (assumption (AppendsPart-second (taken a) (taken b) (taken c) x y before.ok wrote.err))

  -- what failed before the flush
  pub Sends-failed :
      {T U : Type 0} (a b : K) (bytes : List ℕ) (e : StreamFault) (result : Result U StreamFault)
      → IsErrAnd result (λ f. f ≡ e)
      → WritesAll {T = T} taken failures a b bytes (Err e)
      → Sends taken failures a b bytes result
  Sends-failed a b bytes e result exit wrote =
      let p = err_from_is_err_and result exit in
      rw (p.1, p.2) (assumption (part_front (taken a) (taken b) bytes wrote.err))

  -- all was written, and then the sink was flushed
  pub Sends-flushed :
      {T U : Type 0} (a b c : K) (bytes : List ℕ) (u : T) (result : Result U StreamFault)
      → WritesAll {T = T} taken failures a b bytes (Ok u)
      → Keeps (taken b) (taken c)
      → IfErr result (λ e. e ≡ WriteFailed)
      → failures c ≡ failures b + failed_calls result
      → Sends taken failures a c bytes result
  Sends-flushed a b c bytes u result wrote kept fault failed =
      let in_all : failures c ≡ failures a + failed_calls result =
      omega (arith, wrote.failed, failed) in
      assumption (
        on_ok result (Appends-kept (taken a) (taken b) (taken c) bytes wrote.ok kept),
        on_err result (whole_front (taken a) (taken b) (taken c) bytes wrote.ok kept),
      )

  -- a block failed, after others that were written
  pub Writes-block :
      {A T U : Type 0} (f : A → List ℕ) (a b c : K) (all done rest front back : List A)
      (e : StreamFault)
      → all ≡ done ++ rest
      → rest ≡ front ++ back
      → Appends (taken a) (taken b) (flat_map f done)
      → failures b ≡ failures a
      → WritesAll {T = T} taken failures b c (flat_map f front) (Err e)
      → WritesAll {T = U} taken failures a c (flat_map f all) (Err e)
  Writes-block f a b c all done rest front back e whole split before fewer wrote =
      let failed : failures c ≡ failures a + 1 = omega (arith, fewer, wrote.failed) in
      assumption
      (block_part f (taken a) (taken b) (taken c) all done rest front back whole split before
      wrote.err)

  -- what was sent, of whatever the call returns
  pub Sends-as : {T U : Type 0} (a b : K) (bytes sent : List ℕ) (u : T) (v : U)
      → bytes ≡ sent
      → Sends {T = T} taken failures a b bytes (Ok u)
      → Sends {T = U} taken failures a b sent (Ok v)
  Sends-as a b bytes sent u v same wrote = rw (← same) assumption

  pub Sends-failed-as : {T U : Type 0} (a b : K) (bytes sent : List ℕ) (e : StreamFault)
      → bytes ≡ sent
      → Sends {T = T} taken failures a b bytes (Err e)
      → Sends {T = U} taken failures a b sent (Err e)
  Sends-failed-as a b bytes sent e same wrote = rw (← same) assumption

-- a byte's sample is the byte
pub flat_map-bytes : (bytes : List ℕ) → flat_map (encoded_sample U8) (map pos bytes) ≡ bytes
flat_map-bytes [] = refl
flat_map-bytes (b ∷ bytes) = ap (λ l. b ∷ l) (flat_map-bytes bytes)
