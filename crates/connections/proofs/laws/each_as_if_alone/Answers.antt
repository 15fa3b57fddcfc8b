use Rattle.std.proofs.Common.{ℕ, List, []}
use Rattle.connections.specs.Connections.{ConnectionsValue, Connects}
use Rattle.connections.specs.History.{Event, History, NeverCloses}
use Rattle.connections.proofs.HistoryLemmas.{IsAfter, GoesOn, goes_on}
use Rattle.connections.proofs.laws.each_as_if_alone.Goals as goal

opened_is : (before opened : ConnectionsValue) (connection : ℕ)
    → Connects connection before opened
    → IsAfter before.limits connection [] opened
opened_is before opened connection o = record {
  limits_are = o.others.limits;
  opened = o.opened;
  states = o.no_contexts;
}

on : (before opened after : ConnectionsValue) (connection : ℕ) (events : List Event)
    → Connects connection before opened
    → History opened events after
    → NeverCloses connection events
    → GoesOn before.limits connection [] events after
on before opened after connection events o history never =
    goes_on before.limits connection [] events opened after
    (opened_is before opened connection o) history never

pub returns : goal.returns
returns c = record {
  replies =
      λ before opened after connection events o history never.
      (on before opened after connection events o history never).replies;
  states =
      λ before opened after connection events o history never.
      (on before opened after connection events o history never).states;
  lost =
      λ before opened after connection events o history never.
      (on before opened after connection events o history never).lost;
}
