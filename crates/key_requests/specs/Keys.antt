-- The key that a request asks for, and the text that tells it. Assumes nothing.
use Rattle.std.specs.Prelude.{◌≡◌, ℕ, ◌⊎◌, List, ◌++◌, vec_items, codes, decimal}
use Rattle.std.specs.List.{flat_map}
use Rattle.cipher.specs.Model.{Model}
use Rattle.keys.specs.Bottom.{rooted}
use Rattle.keys.specs.Stack as stacks
use Rattle.keys.specs.Stack.{key}
use Rattle.stacks.specs.Stacks.{planned, built}
use Rattle.stacks.specs.Keys.{Refusal, refusal, HasKey}
use Rattle.stacks.specs.declared.refusal.KeyRefusal.{KeyRefusal}
use Rattle.text.specs.Hex.{encoded}
use Rattle.key_requests.specs.declared.request.KeyRequest.{KeyRequest}

-- the stack that a request asks for a key of
abbrev pub asked : Model → KeyRequest → stacks.Stack
asked c r = built (planned r.plan r.quota) (rooted c.key (vec_items r.key))

-- the text of a refusal: the number and the values, in decimal digits
abbrev pub refusal_text : Refusal → List ℕ
refusal_text f = codes "refused " ++ decimal f.number ++ flat_map (λ v. codes " " ++ decimal v) f.values

-- the text answers a request
abbrev pub KeyTold : Model → KeyRequest → List ℕ → Type 0
KeyTold c r text =
    (HasKey (asked c r) r.number × (text ≡ encoded (key c (asked c r) r.number)))
    ⊎ ((f : KeyRefusal) × (refusal f).given (asked c r) r.number × (text ≡ refusal_text (refusal f)))
