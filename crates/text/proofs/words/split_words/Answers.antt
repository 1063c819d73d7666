use Rattle.std.proofs.Common.{rules}
use Rattle.std.proofs.lemmas.Iterator.Consumers.{map_from_collect}
use Rattle.std.proofs.lemmas.Iterator.Splits.{YieldsList-from_slice_split}
use Rattle.std.proofs.lemmas.Result.{IfOk-weaker}
use Rattle.text.proofs.Spacing.{blank, the_words}
use Rattle.text.proofs.words.split_words.Goals as goal

pub returns : goal.returns
returns c =
    let line = c.args.line.now in
    IfOk-weaker c.collect.result _ _ (λ v e. the_words line _ e)
    (map_from_collect c.collect.result c.collect.ensures.ran
    (YieldsList-from_slice_split _ blank line c.split.ensures.rest c.split.ensures.done c.split.ensures.closure (λ x b q h. search rules)))
