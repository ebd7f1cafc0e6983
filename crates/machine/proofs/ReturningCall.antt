-- A call of a proved function that takes plain values returns, on the machine of the logic, from every memory, and what a caller learns of
-- its result holds of what it returns: the logic's adequacy, at its own closed model.
-- Assumes nothing.
use mathlib.Core.List.{List, [], ◌∷◌}
use mathlib.Core.Path.{◌≡◌, refl}
use mathlib.Core.Logic.{∥∥₁_prop, ∥∥₁_elim, ∥∥₁_map}
use seplogic.Bi.Sat
use base.Logic.{SProp, ent, sep, ex, emp, via, mono_l, mono_r, comm∗, fst∗, snd∗, emp∗, mono∗}
use base.Fml.{Fml}
use mir.Syntax.{Width}
use mir.Val.{Val}
use prog.Memory.{Memory}
use prog.Routine.{Env, Callee, Routine, ends}
use types.Logic.{sem}
use ghost.Model as Closed
use contract.Adequate.{Satisfies, sat_weaken, sat_fact, sat_ex∗, sat_⇛}
use contract.BorrowModel.{logic₀}
use contract.Closed.{model⁺, real⁺, real⁺_strict, any_memory⁺}
use contract.Lifetimes.{AllOutlive}
use contract.Monad.{fact, fact_i}
use contract.Running.{MachineTables, Running, tables, tables_of, within}
use denote.RattleType.{RattleType, Valss, flat, owns}
use denote.Signature.{types_at}
use denote.Laws.{Is, Ises, Are, Makes, Makess, shows, owns_make}
use denote.Plain.{UInt, uint_Makes}
use denote.Triple.Adequate.{adequate}
use denote.Triple.Clauses.{Ended, Lasts, at_exit, lasts}
use denote.Triple.Spec.{Back}
use denote.Triple.Statement.{Contract}
use denote.Triple.Walked.{Fit}
use borrow.Fn.Kinds.{ParamKind, ResultKind, In, Out, Dens, slots, res_t, os_r, ended_of, sig_of, stays}
use borrow.Fn.Plain.{Known, known_of}
use borrow.Fn.Run.{Over}
use borrow.Fn.World.{World}

abbrev Pr : Type 2
Pr = SProp Closed.𝓤

abbrev ◌⊢◌ : Pr → Pr → Type 1
A ⊢ B = ent Closed.𝓤 A B

abbrev ◌∗◌ : Pr → Pr → Pr
A ∗ B = sep Closed.𝓤 A B

abbrev none : Pr
none = emp Closed.𝓤

abbrev ⟦◌⟧ : Fml → Pr
⟦ P ⟧ = sem logic₀ P

-- the memory is σ, and P holds beside it
abbrev ◌⊨◌ : Memory → Pr → Type 1
σ ⊨ P = Satisfies Closed.𝓤 Closed.H model⁺ σ P

infix 26 ◌⊢◌
infix 26 ◌⊨◌
infixr 35 ◌∗◌
-- the machine's own running of routines, and the rules of its model, where names mean γ
abbrev pub 𝓡₀ : Env → Running Closed.𝓤 Closed.H model⁺
𝓡₀ γ = within Closed.𝓤 Closed.H model⁺ real⁺ γ

abbrev pub world : Env → World
world γ = record { M = _; 𝓤 = Closed.𝓤; 𝓛 = logic₀; 𝓜 = model⁺; 𝓡 = 𝓡₀ γ }

-- values of the type are had for nothing: it is plain
abbrev pub Had : RattleType → Type 1
Had R = Makes logic₀ R (Is R)

pub number_had : (w : Width) → Had (UInt w)
number_had = uint_Makes logic₀

-- every memory can be
can_be : (σ : Memory) → σ ⊨ none
unfolding Satisfies
can_be σ =
    let M : Pr = model⁺.mem σ in
    Sat.mono (Closed.𝓤).op (via Closed.𝓤 (none ∗ M) (emp∗ Closed.𝓤 M) (comm∗ Closed.𝓤 none M)) (any_memory⁺ σ)

-- a plain fact that holds beside a memory holds
says : (σ : Memory) (K : Pr) (φ : Type 0) → K ⊢ fact Closed.𝓤 φ → σ ⊨ K ∗ none → ∥ φ ∥₁
says σ K φ h =
    sat_fact Closed.𝓤 Closed.H model⁺ σ (K ∗ none) φ (via Closed.𝓤 (K ∗ none) (snd∗ Closed.𝓤 (model⁺.mem σ) (K ∗ none)) (via Closed.𝓤 K (fst∗ Closed.𝓤 K none) h))

-- the routine that `name` means in γ, of parameters ps and a result of the kind res, of which a caller shows P and learns Q
module _ (ps : List (ParamKind 0)) (res : ResultKind 0) (P : In 0 ps) (Q : Out 0 ps res) (γ : Env) (name : Callee) where
  abbrev 𝓣 : MachineTables Closed.𝓤 Closed.H model⁺
  𝓣 = tables Closed.𝓤 Closed.H model⁺ (𝓡₀ γ) γ

  abbrev told : Contract Closed.𝓤
  told = known_of logic₀ 0 ps res P Q

  abbrev Ts : List RattleType
  Ts = types_at (slots ps) tt

  abbrev T : Ended
  T = ended_of 0 ps res

  abbrev R : RattleType
  R = res_t res tt

  -- passed the machine's values vss in the memory σ, the routine ends, and what it returns is the value of a result of which Good holds
  abbrev pub Returned : Valss Ts → Memory → (R.Denot → Type 0) → Type 0
  Returned vss σ Good = (z : R.Denot) × (v : Val) × (σ' : Memory) × ends (γ name) (flat Ts vss) σ v σ' × Is R z (v ∷ []) × Good z

  enters : (a : Dens tt ps) (vss : Valss Ts) → none ⊢ ⟦ owns Ts a vss ⟧ → P tt a → none ⊢ ((none ∗ ⟦ owns Ts a vss ⟧) ∗ fact Closed.𝓤 (P tt a)) ∗ none
  enters a vss had asked =
      via Closed.𝓤 (none ∗ none) (emp∗ Closed.𝓤 none)
      (mono_l Closed.𝓤 none (via Closed.𝓤 (none ∗ none) (emp∗ Closed.𝓤 none)
      (mono∗ Closed.𝓤 (via Closed.𝓤 (none ∗ none) (emp∗ Closed.𝓤 none) (mono_r Closed.𝓤 none had)) (fact_i Closed.𝓤 (P tt a) none asked))))

  -- from the function's theorem (`met`), and what the checker makes of it for callers (`known`)
  pub returns : {Met : World → Routine → Type 1}
      → ((w : World) (δ : Env) (k : Callee) (f : Routine) → δ k ≡ f → Met w f → Known w.𝓛 (Over w.𝓛 w.𝓜 w.𝓡 δ) 0 ps res P Q k)
      → Met (world γ) (γ name) → AllOutlive 0 (os_r res) tt
      → Makess logic₀ Ts (Ises Ts) → (a : Dens tt ps) (vss : Valss Ts) → Are Ts (Ises Ts) a vss → P tt a
      → (Good : R.Denot → Type 0) → ((z : R.Denot) (ws : Lasts T tt a) → Q tt a z (at_exit T tt a ws) → Good z) → (σ : Memory) → ∥ Returned vss σ Good ∥₁
  unfolding tables_of
  returns known met bounds had a vss are asked Good tells σ =
      let x : told.Ghost = ((tt, tt, bounds, a, vss), tt) in
      let L : R.Denot → Lasts T tt a → Type 0 = λ z ws. Fit T (stays ps) tt a ws × Q tt a z (at_exit T tt a ws) in
      let B : Val → R.Denot → Pr = λ v z. Back logic₀ (sig_of 0 ps res) x.0 v z in
      let K : Val → R.Denot → Lasts T tt a → Pr = λ v z ws. (⟦ lasts T tt a ws ⟧ ∗ fact Closed.𝓤 (L z ws)) ∗ B v z in
      let entered : σ ⊨ told.pre x ∗ none = sat_weaken Closed.𝓤 Closed.H model⁺ σ (enters a vss (owns_make logic₀ Ts (Ises Ts) had a vss are) asked) (can_be σ) in
      ∥∥₁_elim (adequate Closed.𝓤 Closed.H model⁺ 𝓣 real⁺_strict name told (known (world γ) γ name (γ name) refl met) x σ none entered) ∥∥₁_prop (λ (n, v, σ', run, left).
      ∥∥₁_elim (sat_ex∗ Closed.𝓤 Closed.H model⁺ σ' (λ z. ex Closed.𝓤 (K v z)) none (sat_⇛ Closed.𝓤 Closed.H model⁺ σ' (ex Closed.𝓤 (λ z. ex Closed.𝓤 (K v z))) none left)) ∥∥₁_prop (λ (z, some).
      ∥∥₁_elim (sat_ex∗ Closed.𝓤 Closed.H model⁺ σ' (K v z) none some) ∥∥₁_prop (λ (ws, held).
      let S : Pr = ⟦ lasts T tt a ws ⟧ in
      let F : Pr = fact Closed.𝓤 (L z ws) in
      let O : Pr = ⟦ R.own_val z (v ∷ []) ⟧ in
      ∥∥₁_elim (says σ' (K v z ws) (L z ws) (via Closed.𝓤 (S ∗ F) (fst∗ Closed.𝓤 (S ∗ F) (B v z)) (snd∗ Closed.𝓤 S F)) held) ∥∥₁_prop (λ learnt.
      ∥∥₁_map (says σ' (K v z ws) (Is R z (v ∷ [])) (via Closed.𝓤 (B v z) (snd∗ Closed.𝓤 (S ∗ F) (B v z)) (via Closed.𝓤 O (snd∗ Closed.𝓤 none O) (shows logic₀ R z (v ∷ [])))) held)
      (λ is. (z, v, σ', (n, run), is, tells z ws learnt.1))))))
