-- A stream splits in one way.
use Rattle.std.proofs.Common.{◌≡◌, ℕ, ◌+◌, List, [], ◌∷◌, ◌++◌, inl, inr, arith, length, take, drop, get_or, refl, sym, ap, ◌∙◌, append_assoc, take_at, drop_at, length-append, All}
use Rattle.vx_requests.proofs.Common.{All-head, All-tail, w16, from_be_bytes, from_be_bytes-to_be_bytes_4, Frame, IsFrame, IsRest, Splits, said_length, frame_bytes, frames_bytes}
use Rattle.std.proofs.lemmas.Nat.{from_be_bytes-to_be_bytes_2}

frame_eq : (f g : Frame) → f.client ≡ g.client → f.op ≡ g.op → f.body ≡ g.body → f ≡ g
frame_eq f g p q r =
    let at : ℕ → ℕ → List ℕ → Frame = λ c o b. record { client = c; op = o; body = b } in
    ap (λ c. at c f.op f.body) p ∙ ap (λ o. at g.client o f.body) q ∙ ap (at g.client g.op) r

-- the length at the front of a frame
pub frame_length : (f : Frame) (x : List ℕ)
    → IsFrame f
    → said_length (frame_bytes f ++ x) ≡ length f.body + 3
frame_length f x is =
    let len = is.len in from_be_bytes-to_be_bytes_4 (length f.body + 3) (omega arith)

frame_client : (f : Frame) (x : List ℕ)
    → IsFrame f
    → from_be_bytes w16 (take 2 (drop 4 (frame_bytes f ++ x))) ≡ f.client
frame_client f x is = from_be_bytes-to_be_bytes_2 f.client is.client

-- no frame begins another, whatever follows
pub same_front : (f g : Frame) (x y : List ℕ)
    → IsFrame f
    → IsFrame g
    → frame_bytes f ++ x ≡ frame_bytes g ++ y
    → (f ≡ g) × (x ≡ y)
same_front f g x y is is' e =
    let said : length f.body + 3 ≡ length g.body + 3 =
    sym (frame_length f x is) ∙ ap said_length e ∙ frame_length g y is' in
    let long : length g.body ≡ length f.body = omega arith in
    let client : f.client ≡ g.client =
    sym (frame_client f x is)
    ∙ ap (λ l. from_be_bytes w16 (take 2 (drop 4 l))) e
    ∙ frame_client g y is' in
    let op : f.op ≡ g.op = ap (λ l. get_or l 6 0) e in
    let rest : f.body ++ x ≡ g.body ++ y = ap (drop 7) e in
    let body : f.body ≡ g.body =
    sym (take_at f.body x (length f.body) refl)
    ∙ ap (take (length f.body)) rest
    ∙ take_at g.body y (length f.body) long in
    let later : x ≡ y =
    sym (drop_at f.body x (length f.body) refl)
    ∙ ap (drop (length f.body)) rest
    ∙ drop_at g.body y (length f.body) long in
    (frame_eq f g client op body, later)

-- no whole frame is left in a rest
pub not_rest : (rest : List ℕ) (g : Frame) (y : List ℕ)
    → IsRest rest
    → IsFrame g
    → rest ≡ frame_bytes g ++ y
    → ⊥
not_rest rest g y (inl begun) is e =
    let said : said_length rest ≡ length g.body + 3 = ap said_length e ∙ frame_length g y is in
    let long : length rest ≡ length (frame_bytes g) + length y =
    ap length e ∙ length-append (frame_bytes g) y in
    let short = begun (omega arith) in omega (arith, short.1)
not_rest rest g y (inr bad) is e =
    let said : said_length rest ≡ length g.body + 3 = ap said_length e ∙ frame_length g y is in
    let len = is.len in
    bad.1 (omega arith, omega arith)

pub one_rest : (fs gs : List Frame) (r s : List ℕ)
    → All IsFrame fs
    → All IsFrame gs
    → IsRest r
    → IsRest s
    → frames_bytes fs ++ r ≡ frames_bytes gs ++ s
    → (fs ≡ gs) × (r ≡ s)
one_rest [] [] r s each each' is is' e = (refl, e)
one_rest [] (g ∷ gs) r s each each' is is' e =
    absurd
    (not_rest r g (frames_bytes gs ++ s) is (All-head IsFrame g gs each')
    (e ∙ append_assoc (frame_bytes g) (frames_bytes gs) s))
one_rest (f ∷ fs) [] r s each each' is is' e =
    absurd
    (not_rest s f (frames_bytes fs ++ r) is' (All-head IsFrame f fs each)
    (sym e ∙ append_assoc (frame_bytes f) (frames_bytes fs) r))
one_rest (f ∷ fs) (g ∷ gs) r s each each' is is' e =
    let same =
    same_front f g (frames_bytes fs ++ r) (frames_bytes gs ++ s) (All-head IsFrame f fs each)
    (All-head IsFrame g gs each')
    (sym (append_assoc (frame_bytes f) (frames_bytes fs) r)
    ∙ e
    ∙ append_assoc (frame_bytes g) (frames_bytes gs) s)
    in
    let rest =
    one_rest fs gs r s (All-tail IsFrame f fs each) (All-tail IsFrame g gs each') is is' same.1 in
    (ap (λ h. h ∷ fs) same.0 ∙ ap (λ hs. g ∷ hs) rest.0, rest.1)

pub one_split : (stream : List ℕ) (fs gs : List Frame) (r s : List ℕ)
    → Splits stream fs r
    → Splits stream gs s
    → (fs ≡ gs) × (r ≡ s)
one_split stream fs gs r s p q =
    one_rest fs gs r s p.each q.each p.rest_is q.rest_is (sym p.whole ∙ q.whole)
