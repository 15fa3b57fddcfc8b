-- Pieces read or written one after the other.
use Rattle.std.proofs.Common.{ℕ, ◌+◌, ◌≤◌, List, [], ◌++◌, Option, Result, Ok, Err, arith, length, sym, append-nil, length-append, OnOk, OnErr}
use Rattle.vx_requests.proofs.Common.{Consumes, Appends, Keeps, Consumes-trans, Appends-kept, StreamFault, AppendsPart, AppendsFront, ReadsPart}

-- what holds in any case holds in either
pub on_ok : {T E P : Type 0} (r : Result T E) → P → OnOk r P
on_ok (Ok x) p = p
on_ok (Err e) p = tt

pub on_err : {T E P : Type 0} (r : Result T E) → P → OnErr r P
on_err (Ok x) p = tt
on_err (Err e) p = p

-- a front that isn't all is a front
pub part_front : (a b : Option (List ℕ)) (x : List ℕ) → AppendsPart a b x → AppendsFront a b x
part_front a b x (front, rest, e, some, p) = (front, rest, e, p)

-- all was written, and the flush failed
pub whole_front : (a b c : Option (List ℕ)) (x : List ℕ)
    → Appends a b x
    → Keeps b c
    → AppendsFront a c x
whole_front a b c x p r = (x, [], sym (append-nil x), Appends-kept a b c x p r)

-- some bytes, and then fewer than were wanted
pub part_after : (a b c : Option (List ℕ)) (bytes : List ℕ) (n m : ℕ) (e : StreamFault)
    → Consumes a b bytes
    → length bytes + n ≤ m
    → ReadsPart b c n e
    → ReadsPart a c m e
part_after a b c bytes n m e p fits (part, q, fewer, breaks) = (
  bytes ++ part,
  Consumes-trans a b c bytes part p q,
  omega (arith, length-append bytes part),
  breaks,
)
