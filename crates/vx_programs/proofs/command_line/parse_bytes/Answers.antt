use Rattle.std.proofs.Common.{rules, sym}
use Rattle.vx_programs.proofs.QuotaLemmas.{told_ok, told_err}
use Rattle.vx_programs.proofs.command_line.parse_bytes.Goals as goal

pub returns-in-Ok : goal.returns-in-Ok
returns-in-Ok c =
    let word = c.args.word.now in
    let told =
    told_ok word c.parse.result (search (rules, c.if-starts_with.ensures.byte))
    c.parse.ensures.value.0 c.in-Ok.bytes c.in-Ok.is in
    search (rules, c.is_limit.ensures, told)

pub returns-in-Err : goal.returns-in-Err
returns-in-Err c =
    let word = c.args.word.now in
    sym
    (told_err word c.parse.result (search (rules, c.if-starts_with.ensures.byte))
    c.parse.ensures.value.0 c.in-Err.field-0 c.in-Err.is)
