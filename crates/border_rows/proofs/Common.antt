-- The names that several proofs cite, passed on from one place. Declares nothing.
pub use Rattle.border_rows.specs.Seen.{border_value, seen_along}
pub use Rattle.std.proofs.lemmas.Int.{ints, to_z-of_z}
pub use Rattle.vx_base.proofs.TableLaws.{run-constant, run-same}
pub use Rattle.vx_base.specs.Image.{run}
pub use Rattle.vx_base.specs.Window.{sample_or_border}
