-- Rounds in which all nodes act simultaneously, and a run of the nodes one after another.
use Rattle.std.proofs.Common.{◌≡◌, ℕ, ◌+◌, ◌⊎◌, suc, Bool, true, false, List, [], ◌∷◌, length, refl, sym, ◌∙◌, ap, subst, inl, inr, arith}
use Rattle.graph_verify.proofs.Common.{cases_Bool, false_from_ne_true, list_any, In, AllIn, InTurn, round, rounds, one_pass, OneWriter, IsSolution, ReadsAlone}
use Rattle.graph_verify.specs.Rounds.{step}
use Rattle.graph_verify.proofs.MemberLemmas.{In-from_any, any-from_In}

module _ {N C V : Type 0} (reads writes : N → C → Bool) (feeds : N → N → Bool)
    (value : N → (C → V) → C → V)
    -- a node that writes what another reads feeds it
    (feeds_is : (m n : N) (c : C) → writes m c ≡ true → reads n c ≡ true → feeds m n ≡ true)
    (reads_alone : ReadsAlone reads value)
  where
    -- what no node of the list writes stays
    pub once_stays : (ns : List N) (held : C → V) (c : C)
        → ((n : N) → In n ns → writes n c ≡ false)
        → one_pass writes value ns held c ≡ held c
    once_stays [] held c h = refl
    once_stays (n ∷ ns) held c h =
        grind (arith, once_stays ns (step writes value n held) c (λ m i. h m (inr i)))

    -- a node that no node of the list feeds reads the values from before the run
    unread : (ns : List N) (n : N)
        → ((m : N) → In m ns → feeds m n ≡ false)
        → (held : C → V) (c : C)
        → reads n c ≡ true
        → one_pass writes value ns held c ≡ held c
    unread ns n h held c r =
        once_stays ns held c
        (λ m i. false_from_ne_true (writes m c)
        (λ w. let k = h m i in let l = feeds_is m n c w r in cc))

    pub once_written : (ns : List N) (held : C → V)
        → InTurn feeds ns
        → OneWriter writes ns
        → (n : N) (c : C)
        → In n ns
        → writes n c ≡ true
        → one_pass writes value ns held c ≡ value n (one_pass writes value ns held) c
    once_written [] held turn one n c h w = absurd h
    once_written (m ∷ ns) held turn one n c (inr i) w =
        once_written ns (step writes value m held) turn.1
        (λ x y d p q. one x y d (inr p) (inr q)) n c i w
    once_written (m ∷ ns) held turn one n c (inl e) w =
        elim (cases_Bool (list_any (λ k. writes k c) ns)) [
          -- a later place of the list has the same node
          | inl later ↦ (let k = In-from_any (λ z. writes z c) ns later in
              once_written ns (step writes value m held) turn.1
              (λ x y d p q. one x y d (inr p) (inr q)) n c
              (subst (λ z. In z ns) (one k.0 n c (inr k.1) (inl e) k.2 w) k.1) w)
          | inr none ↦
              (let w' : writes m c ≡ true = ap (λ z. writes z c) (sym e) ∙ w in
              let stays : one_pass writes value (m ∷ ns) held c ≡ step writes value m held c =
              once_stays ns (step writes value m held) c
              (λ k i. false_from_ne_true (writes k c)
              (λ t. let u = any-from_In (λ z. writes z c) k ns i t in cc))
              in
              let same : value m (one_pass writes value (m ∷ ns) held) c ≡ value m held c =
              reads_alone m (one_pass writes value (m ∷ ns) held) held
              (λ d r. unread (m ∷ ns) m turn.0 held d r) c in
              let this : step writes value m held c ≡ value m held c = rw w' refl in
              stays
              ∙ this
              ∙ sym same
              ∙ ap (λ z. value z (one_pass writes value (m ∷ ns) held) c) (sym e))
        ]

    -- running once through an order gives a solution
    pub once_solves : (g ns : List N) (held : C → V)
        → InTurn feeds ns
        → OneWriter writes ns
        → AllIn g ns
        → AllIn ns g
        → IsSolution writes value g held (one_pass writes value ns held)
    once_solves g ns held turn one to from = grind (arith, once_written, once_stays)

    -- what a round gives a cell
    round_cases : (ns : List N) (a : C → V) (c : C)
        → (((n : N) → In n ns → writes n c ≡ false) × (round writes value ns a c ≡ a c))
        ⊎ ((n : N) × In n ns × (writes n c ≡ true) × (round writes value ns a c ≡ value n a c))
    round_cases [] a c = inl ((λ n i. absurd i), refl)
    round_cases (n ∷ ns) a c = grind (arith, round_cases ns a c, cases_Bool (writes n c))

    -- each node of g is still to come or is fed by none that is
    abbrev Settled : List N → List N → Type 0
    Settled g rest = (m : N) → In m g → In m rest ⊎ ((k : N) → In k rest → feeds k m ≡ false)

    Settled-next : (g : List N) (n : N) (rest : List N)
        → InTurn feeds (n ∷ rest)
        → Settled g (n ∷ rest)
        → Settled g rest
    Settled-next g n rest turn s m i = grind arith

    abbrev Agrees : List N → (C → V) → (C → V) → Type 0
    Agrees rest a b = (c : C) → ((n : N) → In n rest → writes n c ≡ false) → a c ≡ b c

    Agrees-next : (g : List N) (held b : C → V)
        → IsSolution writes value g held b
        → (n : N) (rest : List N) (a : C → V)
        → InTurn feeds (n ∷ rest)
        → AllIn (n ∷ rest) g
        → Settled g (n ∷ rest)
        → Agrees (n ∷ rest) a b
        → Agrees rest (round writes value g a) b
    Agrees-next g held b sol n rest a turn within s agree c h = grind (arith, round_cases g a c)

    rounds_reach : (g : List N) (held b : C → V)
        → IsSolution writes value g held b
        → (rest : List N) (k j : ℕ)
        → j ≡ length rest + k
        → InTurn feeds rest
        → AllIn rest g
        → Settled g rest
        → Agrees rest (rounds writes value g k held) b
        → (c : C)
        → rounds writes value g j held c ≡ b c
    rounds_reach g held b sol [] k j e turn within s agree c = grind arith
    rounds_reach g held b sol (n ∷ rest) k j e turn within s agree c =
        rounds_reach g held b sol rest (suc k) j (omega arith) turn.1 (λ x i. within x (inr i))
        (Settled-next g n rest turn s)
        (Agrees-next g held b sol n rest (rounds writes value g k held) turn within s agree) c

    -- every solution is what the rounds give
    pub solution_is_rounds : (g steps : List N) (held b : C → V)
        → InTurn feeds steps
        → AllIn g steps
        → AllIn steps g
        → length steps ≡ length g
        → IsSolution writes value g held b → (c : C) → rounds writes value g (length g) held c ≡ b c
    solution_is_rounds g steps held b turn to from same sol =
        rounds_reach g held b sol steps 0 (length g) (omega arith) turn from
        (λ m i. inl (to m i)) (λ c h. sym (sol.others c (λ n i. h n (to n i))))

    -- once through an order is the rounds
    pub once_is_rounds : (g steps : List N) (held : C → V)
        → InTurn feeds steps
        → AllIn g steps
        → AllIn steps g
        → length steps ≡ length g
        → OneWriter writes steps
        → (c : C) → rounds writes value g (length g) held c ≡ one_pass writes value steps held c
    once_is_rounds g steps held turn to from same one =
        solution_is_rounds g steps held (one_pass writes value steps held) turn to from same
        (once_solves g steps held turn one to from)

    -- the rounds give a solution
    pub rounds_solve : (g steps : List N) (held : C → V)
        → InTurn feeds steps
        → AllIn g steps
        → AllIn steps g
        → length steps ≡ length g
        → OneWriter writes steps
        → IsSolution writes value g held (rounds writes value g (length g) held)
    rounds_solve g steps held turn to from same one =
        grind (
          arith,
          once_is_rounds g steps held turn to from same one,
          once_solves g steps held turn one to from,
        )
