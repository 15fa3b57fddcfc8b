use Rattle.std.proofs.Common.{◌≡◌, ℕ, List, ◌++◌, All, ap, arith, drop, length, map, subst, sym, take, ◌∙◌}
use Rattle.std.proofs.lemmas.List.{length-map}
use Rattle.graph_run.proofs.Common.{Context, IsDescription, IsObject, IsPlan, IsReady, IsStrictlyIncreasing, Lasts, NamedObject, Node, PlanView, Verified, names_of, with_objects, with_written}
use Rattle.pixel_pool.specs.Block.{BlockValue}
use Rattle.graph_steps.specs.declared.step.Task.{Task}
use Rattle.graph_steps.specs.declared.tally.Tally.{Tally}
use Rattle.graph_steps.specs.Tallies.{AreNew}
use Rattle.graph_run.specs.declared.schedule.Schedule.{Schedule}
use Rattle.graph_run.specs.Blocks.{block_size, lent_size}
use Rattle.graph_run.specs.Bound.{KeepTallies}
use Rattle.graph_run.specs.Program.{tallies_of}
use Rattle.graph_run.specs.Results.{tally_objects}
use Rattle.graph_run.specs.Schedule.{CanRunBy, IsSchedule, schedule_objects}
use Rattle.graph_run.proofs.BlockLemmas.{blocks_counted, counts_stay, written_back}
use Rattle.graph_run.proofs.MoveLemmas.{are_new, can_return, run_is, run_value}
use Rattle.graph_run.proofs.SolutionStepsObjects.{run_lasts}
use Rattle.graph_run.proofs.SolutionStepsTaken.{tallies_kept}
use Rattle.graph_run.proofs.runs.run_scheduled.Goals as goal

abbrev can_run : (objects : List NamedObject) (v : Verified) (s : Schedule)
    → All (λ o. IsObject o.object) objects
    → IsStrictlyIncreasing (names_of objects)
    → (nodes : List Node) × IsReady objects nodes v
    → (p : PlanView) × IsPlan v.steps v.virtual_outputs p × IsSchedule objects v p s
    → All (λ o. IsDescription o.desc) v.virtual_outputs
    → CanRunBy objects v s
can_run objects v s are names ready schedule described =
    record {
      are = are;
      names = names;
      nodes = ready.0;
      ready = ready.1;
      slots = schedule.0;
      plan = schedule.1;
      schedule = schedule.2;
      described = described;
    }

-- the blocks, after they were lent as a slice
blocks_back : (old lent between new : List BlockValue) (len : ℕ)
    → lent ≡ old
    → map lent_size between ≡ map lent_size lent
    → map lent_size new ≡ map lent_size between
    → len ≡ length old
    → map lent_size (take len (new ++ drop (length new) old)) ≡ map lent_size old
blocks_back old lent between new len lent_is first then all =
    grind (arith, length-map, written_back)

pub begin_tallies-requires : goal.begin_tallies-requires
begin_tallies-requires c =
    let g =
    can_run c.args.table.now.objects c.args.verified.now c.args.schedule.now c.requires.objects
    c.requires.names c.requires.ready c.requires.schedule c.prove_descriptions.ensures in
    subst (KeepTallies c.args.table.now.objects) (sym c.steps.ensures.steps) (tallies_kept g)

pub run-requires-clause-new : goal.run-requires-clause-new
run-requires-clause-new c =
    let objects = c.args.table.now.objects in
    let v = c.args.verified.now in
    let s = c.args.schedule.now in
    let g =
    can_run objects v s c.requires.objects c.requires.names c.requires.ready c.requires.schedule
    c.prove_descriptions.ensures in
    let sizes =
    ap (map block_size) c.as_mut_slice-slots.ensures.value
    ∙ c.in_ok-take_blocks.ensures.capacities
    ∙ c.deref.ensures.value in
    let tallies =
    c.as_mut_slice-tallies.ensures.value
    ∙ c.in_ok-begin_tallies.ensures
    ∙ ap (tallies_of objects) c.steps.ensures.steps in
    subst (λ (l : List Task). AreNew l c.as_mut_slice-tallies.result.now)
    (sym c.deref-2.ensures.value)
    (subst (λ (l : List Tally). AreNew s.tasks.items l) (sym tallies)
    (are_new g c.as_mut_slice-slots.result.now sizes c.fill_planes.ensures.planes))

pub empty_planes-requires : goal.empty_planes-requires
empty_planes-requires c =
    let objects = c.args.table.now.objects in
    let v = c.args.verified.now in
    let s = c.args.schedule.now in
    let g =
    can_run objects v s c.requires.objects c.requires.names c.requires.ready c.requires.schedule
    c.prove_descriptions.ensures in
    let blocks = c.as_mut_slice-slots.result.now in
    let sizes =
    ap (map block_size) c.as_mut_slice-slots.ensures.value
    ∙ c.in_ok-take_blocks.ensures.capacities
    ∙ c.deref.ensures.value in
    let lent_sizes =
    ap (map lent_size) c.as_mut_slice-slots.ensures.value
    ∙ c.in_ok-take_blocks.ensures.lent_sizes
    ∙ c.deref.ensures.value in
    let t = c.fill_planes.ensures.planes in
    let bare = ap (λ (x : Context). x.objects) c.fill_planes.ensures.left in
    let tallies =
    c.as_mut_slice-tallies.ensures.value
    ∙ c.in_ok-begin_tallies.ensures
    ∙ ap (tallies_of objects) c.steps.ensures.steps in
    let ran =
    run_is _ _ _ _ _ _ _ _ _ _ s.high s.size (length blocks) _ _ bare c.steps-2.ensures.steps
    c.deref-2.ensures.value c.as_mut_slice-planes.ensures.value tallies
    c.fill_planes.ensures.program
    c.run.ensures.images c.run.ensures.clients c.run.ensures.tallies c.run.ensures.blocks
    c.run.auto.tallies in
    rw bare
    (can_return g blocks sizes t ran lent_sizes c.fill_planes.new.blocks
    c.fill_planes.ensures.lent_sizes)

pub give_back-requires : goal.give_back-requires
give_back-requires c = grind (arith, blocks_back, counts_stay)

pub returns-clause-lent : goal.returns-clause-lent
returns-clause-lent c =
    grind (
      arith,
      blocks_back,
      counts_stay,
      c.in_ok-take_blocks.ensures.lends,
      c.give_back.ensures.lent,
    )

pub returns-clause-free : goal.returns-clause-free
returns-clause-free c =
    grind (
      arith,
      blocks_back,
      counts_stay,
      blocks_counted,
      c.in_ok-take_blocks.ensures.lends,
      c.give_back.ensures.lent,
      c.give_back.ensures.blocks,
    )

pub returns-clause-value : goal.returns-clause-value
returns-clause-value c = λ nodes ready.
    let objects = c.args.table.now.objects in
    let v = c.args.verified.now in
    let s = c.args.schedule.now in
    let g =
    can_run objects v s c.requires.objects c.requires.names (nodes, ready) c.requires.schedule
    c.prove_descriptions.ensures in
    let blocks = c.as_mut_slice-slots.result.now in
    let sizes =
    ap (map block_size) c.as_mut_slice-slots.ensures.value
    ∙ c.in_ok-take_blocks.ensures.capacities
    ∙ c.deref.ensures.value in
    let lent_sizes =
    ap (map lent_size) c.as_mut_slice-slots.ensures.value
    ∙ c.in_ok-take_blocks.ensures.lent_sizes
    ∙ c.deref.ensures.value in
    let t = c.fill_planes.ensures.planes in
    let bare = ap (λ (x : Context). x.objects) c.fill_planes.ensures.left in
    let tallies =
    c.as_mut_slice-tallies.ensures.value
    ∙ c.in_ok-begin_tallies.ensures
    ∙ ap (tallies_of objects) c.steps.ensures.steps in
    let ran =
    run_is _ _ _ _ _ _ _ _ _ _ s.high s.size (length blocks) _ _ bare c.steps-2.ensures.steps
    c.deref-2.ensures.value c.as_mut_slice-planes.ensures.value tallies
    c.fill_planes.ensures.program
    c.run.ensures.images c.run.ensures.clients c.run.ensures.tallies c.run.ensures.blocks
    c.run.auto.tallies in
    c.empty_planes.ensures.value
    ∙ ap
    (λ (x : Context). with_objects x
    (with_written
    (with_written x.objects
    (schedule_objects v s (length c.fill_planes.new.blocks) c.run.new.planes))
    (tally_objects s.tally_cells.items c.run.new.tallies)))
    c.fill_planes.ensures.left
    ∙ ap (with_objects c.args.table.now)
    (run_value g blocks sizes t ran lent_sizes c.fill_planes.new.blocks
    c.fill_planes.ensures.lent_sizes)

pub returns-clause-lasts : goal.returns-clause-lasts
returns-clause-lasts c =
    let g =
    can_run c.args.table.now.objects c.args.verified.now c.args.schedule.now c.requires.objects
    c.requires.names c.requires.ready c.requires.schedule c.prove_descriptions.ensures in
    subst (Lasts c.args.table.now.objects)
    (sym (ap (λ (t : Context). t.objects) (returns-clause-value c g.nodes g.ready)))
    (run_lasts g)
