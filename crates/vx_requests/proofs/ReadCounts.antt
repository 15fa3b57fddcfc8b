-- Reads one after the other.
use Rattle.std.proofs.Common.{ℕ, Ok, arith, ◌∙◌}
use Rattle.vx_requests.proofs.Common.{KeepsCount}
use Rattle.vx_requests.specs.declared.frame.reader.Reader.{Reader}

-- more reads that went well
pub KeepsCount-more :
    {S T U V : Type 0} (reads failures : S → ℕ) (a b c : Reader S) (x : T) (y : U) (z : V)
    → KeepsCount reads failures a b (Ok x)
    → KeepsCount reads failures b c (Ok y)
    → KeepsCount reads failures a c (Ok z)
KeepsCount-more reads failures a b c x y z p q = record {
  source = q.source ∙ p.source;
  counted = (omega (arith, p.counted.0, q.counted.0), omega (arith, p.counted.1, q.counted.1), tt);
  failed = omega (arith, p.failed, q.failed);
}
