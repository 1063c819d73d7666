-- What a level is, and what a move makes of it. Assumes nothing.
use Rattle.std.proofs.Common.{◌≡◌, ℕ, suc, ◌+◌, ◌-◌, ◌*◌, ◌/◌, ◌%◌, ◌<◌, ◌≤◌, Bool, true, false, cond, eqb, List, ◌∷◌, ◌++◌, length, take, drop, replicate, IfSome, Some, None, Ok, Option, Result, sym, refl, ap, ◌∙◌, subst, mod-lt, div-add-mod', div-one, arith, MatchOption}
use native.Mathlib.Nat.{div-div-eq-div-mul}
use Rattle.std.proofs.lemmas.Bool.Decides.{nat_tests}
use Rattle.cipher.specs.Model.{Model, Laws}
use Rattle.cipher.proofs.Joining.{front}
use Rattle.cipher.proofs.Sizes.{key_within}
use Rattle.rules.specs.declared.kind.Kind.{Kind}
use Rattle.rules.specs.Levels.{renews_own}
use Rattle.rules.specs.LevelKeys.{level_key}
use Rattle.rules.specs.InnerKeys.{stage, given}
use Rattle.rules.proofs.Inner.{by_inner, stage_rises}
use Rattle.keys.specs.declared.refusals.Refusal.{Refusal}
use Rattle.keys.specs.Stack.{Stack, on, quotas, levels, key}
use Rattle.keys.specs.Moving.{capped, div, Next, Rises, Raised, Moved}
use Rattle.levels.specs.declared.maker.Inner.{Inner}
use Rattle.levels.specs.declared.maker.Maker.{Maker}
use Rattle.levels.specs.declared.step.Step.{Step}
use Rattle.levels.specs.Onward.{onward, first_of}
use Rattle.levels.specs.Advanced.{IsInner, Advanced}
use Rattle.levels.specs.LevelState.{stack_of, ledgers_of, Here, Stands, Sits}

-- the ledgers, level by level

div_one_of : (p : Option ℕ) → div 1 p ≡ p
div_one_of p = grind (arith, div-one)

div_div : (q a : ℕ) (p : Option ℕ) → div a (div q p) ≡ div (q * a) p
div_div q a p = grind (arith, div-div-eq-div-mul)

-- one level more, of quota q, whose ledger goes from b to a
raised_on : (q : ℕ) (qs : List ℕ) (from : Option ℕ) (to b a : ℕ) (low low' : ℕ → ℕ) → Rises q from to b a → Raised qs (div q from) (to / q) low low'
    → Raised (q ∷ qs) from to (λ j. cond (eqb j (length qs)) b (low j)) (λ j. cond (eqb j (length qs)) a (low' j))
raised_on q qs from to b a low low' top below j h = let lower = below j in grind (arith, nat_tests, div_one_of, div-one, div_div, div-div-eq-div-mul)

-- a level's own ledger, with the keys from the first to the last of a remainder made

first_low : (own : Bool) (from : Option ℕ) (last : ℕ) → ((r : ℕ) → from ≡ Some r → r < last) → first_of own from last ≤ last
first_low own from last h = grind arith

next_mod : {q b i : ℕ} → 1 ≤ q → i ≡ suc b → (b / q ≡ i / q → ⊥) → i % q ≡ 0
next_mod {q} {b} {i} one e ne = let di = div-add-mod' i q in let db = div-add-mod' b q in let l = mod-lt i one in let lb = mod-lt b one in grind arith

-- the next position has one key to make
first_next : (own : Bool) (q : ℕ) (from : Option ℕ) (rem i : ℕ) → 1 ≤ q → IfSome from (λ b. rem ≡ b % q) → Next from i
    → first_of own (onward q from rem i) (i % q) ≡ i % q
first_next false q from rem i one h e = refl
first_next true q None rem i one h e = let l = mod-lt i one in let d = div-add-mod' i q in omega arith
first_next true q (Some b) rem i one h e =
    let same = λ (x : b / q ≡ i / q). ap (λ x. x * q) x in let di = div-add-mod' i q in let db = div-add-mod' b q in
    let new = next_mod one e in grind (arith, nat_tests)

-- the inner key to go on from

first_high : (own : Bool) (r last : ℕ) → r < last → r ≤ first_of own (Some r) last
first_high own r last h = grind arith

module _ {D : Type 0} (c : Model) (s : Stack) (l : Kind) (t : Step) (now : Maker D) (i : ℕ) (parent : List ℕ) (x : Inner D) (first : ℕ) where
  begun_on : (own : Bool) (b : ℕ) → Here c s l t now b → b / t.quota ≡ i / t.quota → t.remainder < i % t.quota
      → first ≡ first_of own (Some t.remainder) (i % t.quota) → x ≡ now.inner → (x.stage ≤ stage l first) × IsInner c l (key c s (i / t.quota)) x
  begun_on own b h same lt f e =
      let high = first_high own t.remainder (i % t.quota) lt in
      let up = stage_rises l t.remainder first in
      grind arith

  begun : (own : Bool) (at : Option ℕ) → IfSome at (Here c s l t now) → parent ≡ key c s (i / t.quota)
      → first ≡ first_of own (onward t.quota at t.remainder i) (i % t.quota)
      → MatchOption (onward t.quota at t.remainder i) ((x.key ≡ parent) × (x.stage ≡ 0)) (λ _. x ≡ now.inner)
      → (x.stage ≤ stage l first) × IsInner c l (key c s (i / t.quota)) x
  begun own None h p f k = grind arith
  begun own (Some b) h p f k = let on = begun_on own b h in grind (arith, nat_tests)

remainder_at : {D : Type 0} (c : Model) (s : Stack) (l : Kind) (t : Step) (now : Maker D) (at : Option ℕ)
    → IfSome at (Here c s l t now) → IfSome at (λ b. t.remainder ≡ b % t.quota)
remainder_at c s l t now at h = grind arith

-- a level whose numbers are t
pub stands_by : {D : Type 0} {c : Model} {s : Stack} {below : Option ℕ} {low : ℕ → ℕ} {l : Kind} {at : Option ℕ} {now : Maker D} (r : Result Step Refusal) (t : Step)
    → r ≡ Ok t → Sits c s below low l r at now → Stands c s below low l t at now
stands_by {c = c} {s} {below} {low} {l} {at} {now} r t e h = subst (λ y. Sits c s below low l y at now) e h

-- the inner key and the current key of a level are those of i
pub record MadeAt {D : Type 0} (c : Model) (s : Stack) (l : Kind) (q i : ℕ) (end : Maker D) : Type 0 where
  pub stage_is : end.inner.stage ≡ stage l (i % q)
  pub inner_is : IsInner c l (key c s (i / q)) end.inner
  pub current_is : end.current ≡ level_key c l (key c s (i / q)) (i % q)

module _ {D : Type 0} {c : Model} {s : Stack} {below : Option ℕ} {low : ℕ → ℕ} {l : Kind} {t : Step} {at : Option ℕ} {now : Maker D}
    (stands : Stands c s below low l t at now) (i : ℕ) (h : i < t.count) where
  -- the keys that were made, on from the inner key x
  pub made_at : {low' : ℕ → ℕ} {below' : Option ℕ} {first : ℕ} (o : Option ℕ) (x : Inner D) (end : Maker D) (parent buffer : List ℕ) → Laws c
      → Moved c s below (i / t.quota) low low' below' (replicate 32 0) buffer → length buffer ≡ 32 → parent ≡ take c.key buffer
      → o ≡ onward t.quota at t.remainder i → first ≡ first_of (renews_own l) o (i % t.quota)
      → MatchOption o ((x.key ≡ parent) × (x.stage ≡ 0)) (λ _. x ≡ now.inner) → Advanced c l first (i % t.quota) x end.inner
      → end.current ≡ given c l end.inner.key (i % t.quota) → MadeAt c s l t.quota i end
  made_at {first = first} o x end parent buffer laws moved long cut e f k a g =
      let p = key c s (i / t.quota) in
      let is_parent : parent ≡ p = cut ∙ front c.key p (replicate 32 0) buffer moved.key_is long (key_within c laws) in
      let b = begun c s l t now i parent x first (renews_own l) at stands.here is_parent (f ∙ ap (λ y. first_of (renews_own l) y (i % t.quota)) e)
      (subst (λ y. MatchOption y ((x.key ≡ parent) × (x.stage ≡ 0)) (λ _. x ≡ now.inner)) e k) in
      let done = a p stands.accepted.1 b.0 b.1 in
      let is = by_inner c l p (i % t.quota) in
      grind arith

  -- where the level stands after the move
  pub stands_on : {s' : Stack} {below' : Option ℕ} {low' : ℕ → ℕ} (t' : Step) (end : Maker D) → t'.count ≡ t.count → t'.quota ≡ t.quota → t'.remainder ≡ i % t.quota
      → s' ≡ s → below' ≡ Some (i / t.quota) → MadeAt c s l t.quota i end → Stands c s' below' low' l t' (Some i) end
  stands_on {s'} {below'} {low'} t' end ec eq er es b f = grind arith

  -- what the move does
  pub moves : {s' : Stack} {low' : ℕ → ℕ} {below' : Option ℕ} {first : ℕ} (o : Option ℕ) (end : Maker D) (parent zeros held out : List ℕ)
      → 1 ≤ t.quota → (at ≡ Some i → ⊥) → s' ≡ s → Moved c s below (i / t.quota) low low' below' zeros parent
      → o ≡ onward t.quota at t.remainder i → ((r : ℕ) → o ≡ Some r → r < i % t.quota) → first ≡ first_of (renews_own l) o (i % t.quota)
      → end.made ≡ capped (now.made + (suc (i % t.quota) - first)) → MadeAt c s l t.quota i end → out ≡ end.current ++ drop c.key held
      → Moved c (on l s) at i (λ j. cond (eqb j (levels s)) now.made (low j)) (λ j. cond (eqb j (levels s')) end.made (low' j)) (Some i) held out
  moves {s'} {low'} {first = first} o end parent zeros held out one other es moved eo before ef em f eh =
      let q = t.quota in
      let low_first : first ≤ i % q = let g = first_low (renews_own l) o (i % q) before in omega arith in
      let next = first_next (renews_own l) q at t.remainder i one (remainder_at c s l t now at stands.here) in
      let top : Rises q at i now.made end.made = (let lt = mod-lt i one in grind arith) in
      let lower : Raised (quotas s) (div q at) (i / q) low low' = subst (λ y. Raised (quotas s) y (i / q) low low') stands.tied moved.ledgers in
      let all = raised_on q (quotas s) at i now.made end.made low low' top lower in
      grind arith

-- the same of a level as it is kept
pub moves_by : {c : Model} {s : Stack} {at to : Option ℕ} {after : ℕ → ℕ} {l : Kind} {i : ℕ} {held out : List ℕ} (r : Result Step Refusal) (t : Step) (made : ℕ) (low : ℕ → ℕ) → r ≡ Ok t
    → Moved c (on l s) at i (λ j. cond (eqb j (levels s)) made (low j)) after to held out
    → Moved c (stack_of r l s) at i (ledgers_of r (levels s) made low) after to held out
moves_by {c} {s} {at} {to} {after} {l} {i} {held} {out} r t made low e h =
    subst (λ y. Moved c (stack_of y l s) at i (ledgers_of y (levels s) made low) after to held out) (sym e) h
