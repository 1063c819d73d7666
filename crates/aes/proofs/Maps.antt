-- Arrays made of others by a function of each element, and folds over round keys. Assumes nothing.
use Rattle.std.specs.Prelude.{◌≡◌, ℕ, suc, ◌<◌, Option, List, [], ◌∷◌, ◌++◌, map, fold, length, slice_index, slice_index_or, refl}
use Rattle.std.specs.Array.{IsMapOf}
use Rattle.std.specs.Fn.{Called}
use Rattle.std.specs.Iterator.{FoldsItems}
use Rattle.std.specs.List.{flat_map}
use Rattle.std.proofs.Common.{sym, ap, ◌∙◌, arith}
use Rattle.std.proofs.lemmas.Fn.{fold_over}
use Rattle.std.proofs.lemmas.Iterator.{YieldsList}
use Rattle.std.proofs.lemmas.List.{get_or-map, length-map, same_lists}
use Rattle.std.proofs.lemmas.List.Sums.{fold-append}
use denote.Param.Members.{Mut}
use denote.Ref.{Bor}
use Rattle.cipher.specs.Bytes.{word_bytes}
use Rattle.aes.specs.Words.{bytes_of}

-- an array is the map of h over another, where each call gives h of an element
pub mapped : {F A B : Type 0} (g : Mut F (A × Unit {0}) B) (h : A → B) → ((p q : F) (x : A) (y : B) → Called g p (x, tt) y q → y ≡ h x)
    → (a : A) {s : F} (xs : List A) (ys : List B) (n : ℕ) → length xs ≡ n → IsMapOf g s xs ys n → ys ≡ map h xs
mapped g h acts a xs ys n long r =
    same_lists ys (map h xs) (r.long ∙ sym (length-map xs h ∙ long))
    (λ k d l.
    let t = r.at k a d (omega (arith, r.long)) in
    acts t.0 t.1 _ _ t.2 ∙ sym (get_or-map h xs k a d (omega (arith, long, r.long))))

bytes_each : {A : Type 0} (f : A → List ℕ) (a : A) (ws : List ℕ) (xs : List A) → length ws ≡ length xs
    → ((k : ℕ) → k < length xs → word_bytes (slice_index ws k) ≡ f (slice_index_or xs k a)) → bytes_of ws ≡ flat_map f xs
unfolding bytes_of
bytes_each f a [] [] l e = refl
bytes_each f a [] (x ∷ xs) l e = absurd (omega arith)
bytes_each f a (w ∷ ws) [] l e = absurd (omega arith)
bytes_each f a (w ∷ ws) (x ∷ xs) l e =
    let more = bytes_each f a ws xs (omega arith) (λ k h. e (suc k) (omega arith)) in
    λ j. e 0 (omega arith) j ++ more j

-- the bytes of words that are made of elements, where f gives the bytes of each
pub mapped_bytes : {F A : Type 0} (g : Mut F (A × Unit {0}) ℕ) (f : A → List ℕ) → ((p q : F) (x : A) (y : ℕ) → Called g p (x, tt) y q → word_bytes y ≡ f x)
    → (a : A) {s : F} (xs : List A) (ws : List ℕ) (n : ℕ) → length xs ≡ n → IsMapOf g s xs ws n → bytes_of ws ≡ flat_map f xs
mapped_bytes g f acts a xs ws n long r =
    bytes_each f a ws xs (r.long ∙ sym long) (λ k l. let t = r.at k a 0 (omega arith) in acts t.0 t.1 _ _ t.2)

-- the bytes of a state that a fold over round keys makes, where h gives the bytes after each
pub folded_bytes : {S F : Type 0} {steps : S → Option (Bor (List ℕ)) → S → Type 0} (g : Mut F (List ℕ × (Bor (List ℕ) × Unit {0})) (List ℕ)) (h : List ℕ → List ℕ → List ℕ) {f : F}
    → ((a : List ℕ) (x : Bor (List ℕ)) (b : List ℕ) (q : F) → Called g f (a, (x, tt)) b q → (q ≡ f) × (bytes_of b ≡ h (bytes_of a) x.now))
    → {s : S} {keys : List (List ℕ)} (init r : List ℕ) → YieldsList steps (λ y. y.now) s keys → FoldsItems steps g s f init r
    → bytes_of r ≡ fold h (bytes_of init) keys
folded_bytes {steps = steps} g h {f = f} acts {s = s} {keys = keys} init r yields ran =
    fold_over steps (λ y. y.now) g (λ ys b. bytes_of b ≡ fold h (bytes_of init) ys) f
    (λ ys a x b q j k.
    let t = acts a x b q k in
    (t.1 ∙ ap (λ l. h l x.now) j ∙ sym (fold-append h (bytes_of init) ys (x.now ∷ [])), t.0))
    s keys init r yields.runs refl ran
