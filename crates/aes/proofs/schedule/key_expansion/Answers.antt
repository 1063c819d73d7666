use Rattle.std.proofs.Common.{◌≡◌, ℕ, ◌+◌, ◌-◌, ◌*◌, ◌/◌, ◌<◌, [], ◌∷◌, ◌++◌, length, get_or, take, set, sym, ap, ◌∙◌, arith}
use Rattle.std.proofs.lemmas.List.FromFn.{map-range_with_len_more, get_or-map-range_with_len}
use Rattle.std.proofs.lemmas.List.{take_all, take_more_set}
use Rattle.cipher.specs.Bytes.{word}
use Rattle.aes.specs.Field.{◌⊕◌}
use Rattle.aes.specs.Aes.{expanded, round_key}
use Rattle.aes.specs.Words.{bytes_of}
use Rattle.aes.proofs.Expansion.{expanded_more, first_words, bytes_of_words}
use Rattle.aes.proofs.Keys.{chunks}
use Rattle.aes.proofs.schedule.key_expansion.Goals as goal

pub loop-i-preserved : goal.loop-i-preserved
loop-i-preserved c =
    let key = c.args.key.now in
    let n = length key / 4 in
    let i = c.loop-i.i in
    let f : ℕ → ℕ = λ k. word key (4 * k) in
    let here : i < n = omega (arith, c.as_chunks.ensures.front_len) in
    let chunk = ap (λ l. get_or l i []) (c.as_chunks.ensures.front ∙ chunks n key (omega arith)) ∙ get_or-map-range_with_len (round_key key) 0 n i i [] here (omega arith) in
    take_more_set c.loop-i.w i c.from_be_bytes.result (omega arith)
    ∙ (λ j. c.loop-i.invariant j ++ (c.from_be_bytes.ensures ∙ ap (λ l. word l 0) chunk) j ∷ [])
    ∙ sym (map-range_with_len_more f 0 i i (omega arith))

pub loop-i-2-init : goal.loop-i-2-init
unfolding expanded
loop-i-2-init c =
    let nk = length c.as_chunks.result.0.now in
    let i : c.loop-i.i ≡ nk = omega arith in
    let n : nk - nk ≡ 0 = omega arith in
    (rw i at c.loop-i.invariant) ∙ sym (ap (λ m. expanded nk m c.args.key.now) n)

pub loop-i-2-preserved : goal.loop-i-2-preserved
loop-i-2-preserved c =
    let nk = length c.as_chunks.result.0.now in
    let w = c.loop-i-2.w in
    let i = c.loop-i-2.i in
    ap (λ t. take (i + 1) (set w i (get_or w (i - nk) 0 ⊕ t))) c.temp.ensures
    ∙ expanded_more nk c.args.key.now w i (omega arith) (omega arith) (omega arith) c.loop-i-2.invariant

pub returns : goal.returns
returns c =
    let key = c.args.key.now in
    let nk = length key / 4 in
    let w = c.loop-i-2.w in
    let i : c.loop-i-2.i ≡ length c.args.w.now = omega (arith, c.as_chunks.ensures.front_len) in
    let words = sym (take_all c.loop-i-2.i w (omega arith)) ∙ c.loop-i-2.invariant ∙ (λ j. expanded (c.as_chunks.ensures.front_len j) (i j - c.as_chunks.ensures.front_len j) key) in
    record {
      words = words;
      front = ap (λ l. bytes_of (take nk l)) words ∙ ap bytes_of (first_words nk (length c.args.w.now - nk) key)
          ∙ bytes_of_words nk key (omega arith) (λ k. (c.type_inv.key k).fits);
    }
