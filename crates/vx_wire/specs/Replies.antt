-- The codes and bodies of replies.
use Rattle.std.specs.Prelude.{ℕ, List, []}
use Rattle.std.specs.Int.{w32, to_be_bytes}
use Rattle.vx_base.specs.declared.code.Code.{Code}
use Rattle.vx_base.specs.Code.{code_number}
use Rattle.client_model.specs.declared.reply.Reply.{Reply}
use Rattle.client_model.specs.declared.reply.Reply.TheVariants.{Refused, Empty, Name, Node, Described, Picture, Text, Counts, Extremes}
use Rattle.vx_wire.specs.Described.{described_bytes}
use Rattle.vx_wire.specs.Samples.{picture_bytes}
use Rattle.vx_wire.specs.Counts.{counts_bytes}
use Rattle.vx_wire.specs.Extremes.{extremes_bytes}

-- a reply's code and body
pub record Said : Type 0 where
  pub code : ℕ
  pub body : List ℕ

-- the code and body of a refusal: the status code, and no bytes
abbrev pub refusal : Code → Said
refusal code = record { code = code_number code; body = [] }

-- the code and body that encode a reply; the code is 0, except in a refusal
abbrev pub said_of : Reply → Said
said_of (Refused code) = refusal code
said_of Empty = record { code = 0; body = [] }
said_of (Name n) = record { code = 0; body = to_be_bytes w32 n }
said_of (Node n) = record { code = 0; body = to_be_bytes w32 n }
said_of (Described d) = record { code = 0; body = described_bytes d }
said_of (Picture p) = record { code = 0; body = picture_bytes p }
said_of (Text text) = record { code = 0; body = text }
said_of (Counts counts) = record { code = 0; body = counts_bytes counts }
said_of (Extremes e) = record { code = 0; body = extremes_bytes e }
