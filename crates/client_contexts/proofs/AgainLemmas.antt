-- A request that found no memory and is tried once more: both calls together are like one.
use Rattle.std.proofs.Common.{◌≡◌, ◌∙◌, ℕ, Result, Err, refl}
use Rattle.std.proofs.lemmas.Result.{on_err_weaker}
use Rattle.client_contexts.proofs.Common.{Request, Reply, AppliesToKept, KeepsVerified, World}
use Rattle.client_contexts.specs.World.{verified_of}
use Rattle.client_contexts.specs.declared.memory.NoMemory.{NoMemory}

module _ (client : ℕ) (request : Request) (a b c : World) (none : NoMemory)
    (result : Result Reply NoMemory) where
  -- its effect on the graphs that are kept as verified
  pub kept_again : b.limits ≡ a.limits
      → AppliesToKept client request a b (Err none)
      → AppliesToKept client request b c result
      → AppliesToKept client request a c result
  kept_again limits first second =
      let work : b.limits.work ≡ a.limits.work = rw limits refl in
      let then :
      KeepsVerified a.limits.work request (verified_of client b) (verified_of client c) result =
      rw work at second.own in
      let stay = first.own.no_memory in
      record {
        own =
            record {
              lost =
                  on_err_weaker result
                  (λ unkept graph is kept. unkept graph is (stay graph kept)) then.lost;
              found = then.found;
              stays = λ graph ends kept. then.stays graph ends (stay graph kept);
              ends = then.ends;
              refused = λ code is graph kept. then.refused code is graph (stay graph kept);
              no_memory =
                  on_err_weaker result (λ stayed graph kept. stayed graph (stay graph kept))
                  then.no_memory;
            };
        others = λ other differs. second.others other differs ∙ first.others other differs;
      }
