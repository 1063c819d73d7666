-- Lines and their words. Assumes nothing.
use Rattle.std.proofs.Common.{◌≡◌, ℕ, ◌==◌, Bool, false, List, [], ◌∷◌, sym, refl, ap, ◌∙◌, inl, inr, arith}
use Rattle.std.specs.List.{AllByRecursion, slice_split, onto_first}
use Rattle.std.proofs.lemmas.Bool.{cases_eq}
use Rattle.std.proofs.lemmas.List.Elements.{All-from_recursion}
use Rattle.std.proofs.lemmas.List.Splits.{slice_split-cons_yes, slice_split-cons_no, slice_split_none, slice_split_at, join_with_byte-slice_split}
use Rattle.text.specs.Words.{Word, spaced, Words, TheWords}

abbrev pub blank : ℕ → Bool
blank c = c == 32

not_blank : (w : List ℕ) → Word w → AllByRecursion (λ c. blank c ≡ false) w
not_blank [] h = tt
not_blank (x ∷ w) h = (grind arith, not_blank w h.1)

-- words with blanks between, split at the blanks
split_spaced : (ws : List (List ℕ)) → AllByRecursion Word ws → (ws ≡ [] → ⊥) → slice_split blank (spaced ws) ≡ ws
split_spaced [] h some = absurd (some refl)
split_spaced (w ∷ []) h some = slice_split_none blank w (All-from_recursion _ w (not_blank w h.0))
split_spaced (w ∷ v ∷ ws) h some =
    slice_split_at blank w 32 (spaced (v ∷ ws)) (All-from_recursion _ w (not_blank w h.0)) refl
    ∙ ap (λ vs. w ∷ vs) (split_spaced (v ∷ ws) h.1 (λ e. cc e))

-- a line has one list of words
pub words_same : (line : List ℕ) (ws vs : List (List ℕ)) → Words line ws → Words line vs → ws ≡ vs
words_same line ws vs p q = sym (split_spaced ws p.words p.some) ∙ ap (slice_split blank) (sym p.whole ∙ q.whole) ∙ split_spaced vs q.words q.some

-- a character more in front of the first word
words_onto : (x : ℕ) (ws : List (List ℕ)) → (x ≡ 32 → ⊥) → AllByRecursion Word ws → AllByRecursion Word (onto_first x ws)
words_onto x [] ne h = ((ne, tt), tt)
words_onto x (w ∷ ws) ne h = ((ne, h.0), h.1)

some_onto : (x : ℕ) (ws : List (List ℕ)) → onto_first x ws ≡ [] → ⊥
some_onto x [] e = cc e
some_onto x (w ∷ ws) e = cc e

-- each part is a word, and there is one
parts_are_words : (line : List ℕ) → AllByRecursion Word (slice_split blank line) × (slice_split blank line ≡ [] → ⊥)
parts_are_words [] = ((tt, tt), λ e. cc e)
parts_are_words (x ∷ xs) =
    let more = parts_are_words xs in
    elim (cases_eq x 32) [
      | inl e ↦ rw (slice_split-cons_yes blank x xs (rw e refl)) ((tt, more.0), λ d. cc d)
      | inr ne ↦ rw (slice_split-cons_no blank x xs (grind arith)) (words_onto x _ ne more.0, some_onto x _)
    ]

-- the parts of a line are its words, and it has no others
pub the_words : (line : List ℕ) (ws : List (List ℕ)) → ws ≡ slice_split blank line → TheWords line ws
the_words line ws e =
    let parts = parts_are_words line in
    let are : Words line (slice_split blank line) = record { whole = sym (join_with_byte-slice_split 32 line); some = parts.1; words = parts.0 } in
    rw e (record { are = are; only = λ vs h. words_same line vs (slice_split blank line) h are })
