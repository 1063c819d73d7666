-- Which words ask for which key, and what is the matter with words that ask for none. Assumes nothing.
use Rattle.std.specs.Prelude.{◌≡◌, ℕ, ◌⊎◌, List, [], ◌∷◌, ◌++◌, Some, None, Ok, Err, vec_items, codes, Option, Result, ◌≢◌}
use Rattle.text.specs.Hex.{Spells}
use Rattle.text.specs.Numerals.{Numeral}
use Rattle.text.specs.declared.fault.HexFault.{HexFault}
use Rattle.text.specs.declared.fault.HexFault.TheVariants.{Digits, Memory as no_memory}
use Rattle.stacks.specs.declared.plan.Plan.{Plan}
use Rattle.stacks.specs.declared.plan.Plan.TheVariants.{OnAxis, OneFan, OneSerial, OneChain, OneMaster}
use Rattle.stacks.specs.declared.plan.AxisStack.{AxisStack}
use Rattle.stacks.specs.declared.plan.AxisStack.TheVariants.{Chain, Master, SerialChain, FanFanChain}
use Rattle.key_requests.specs.declared.request.KeyFault.{KeyFault}
use Rattle.key_requests.specs.declared.request.KeyFault.TheVariants.{Stack, Axis, Number, Hexadecimal, Memory}
use Rattle.key_requests.specs.declared.request.KeyRequest.{KeyRequest}
use Rattle.key_requests.specs.declared.request.KeyWords.{KeyWords}

-- a fault of hexadecimal digits, as one of a request
abbrev pub of_hex : HexFault → KeyFault
of_hex Digits = Hexadecimal
of_hex no_memory = Memory

-- the words of the stacks on an axis
abbrev pub axis_word : AxisStack → List ℕ
axis_word Chain = codes "1"
axis_word Master = codes "2"
axis_word SerialChain = codes "3"
axis_word FanFanChain = codes "4"

-- the word of a master of that period
abbrev pub MasterWord : List ℕ → ℕ → Type 0
MasterWord word period = (digits : List ℕ) × (word ≡ codes "master:" ++ digits) × Numeral digits period

-- the word of a stack with no axis
abbrev pub RootStack : List ℕ → Plan → Type 0
RootStack word OneFan = word ≡ codes "fan"
RootStack word OneSerial = word ≡ codes "serial"
RootStack word OneChain = word ≡ codes "chain"
RootStack word (OneMaster period) = MasterWord word period
RootStack word (OnAxis x axis) = ⊥

abbrev pub no_axis : List ℕ
no_axis = codes "-"

abbrev pub NotAxisStack : List ℕ → Type 0
NotAxisStack word = (x : AxisStack) → word ≢ axis_word x

abbrev pub NotRootStack : List ℕ → Type 0
NotRootStack word = (p : Plan) → RootStack word p → ⊥

abbrev pub NoNumber : List ℕ → Type 0
NoNumber text = (n : ℕ) → Numeral text n → ⊥

abbrev pub NoBytes : List ℕ → Type 0
NoBytes text = (bytes : List ℕ) → Spells text bytes → ⊥

abbrev pub IsAxisStack : List ℕ → Option AxisStack → Type 0
IsAxisStack word (Some x) = word ≡ axis_word x
IsAxisStack word None = NotAxisStack word

abbrev pub IsMaster : List ℕ → Option ℕ → Type 0
IsMaster word (Some period) = MasterWord word period
IsMaster word None = (period : ℕ) → MasterWord word period → ⊥

abbrev pub IsRootStack : List ℕ → Option Plan → Type 0
IsRootStack word (Some p) = RootStack word p
IsRootStack word None = NotRootStack word

-- what the reading of a number answers
abbrev pub NumberRead : List ℕ → Result ℕ KeyFault → Type 0
NumberRead text (Ok n) = Numeral text n
NumberRead text (Err f) = (f ≡ Number) × NoNumber text

-- a stack and an axis say the plan
abbrev pub Plans : List ℕ → List ℕ → Plan → Type 0
Plans stack axis p =
    ((x : AxisStack) × (n : ℕ) × (stack ≡ axis_word x) × Numeral axis n × (p ≡ OnAxis x n))
    ⊎ (RootStack stack p × (axis ≡ no_axis))

-- for each fault, what is the matter with a stack and an axis
abbrev pub NoPlan : List ℕ → List ℕ → KeyFault → Type 0
NoPlan stack axis Stack = NotAxisStack stack × NotRootStack stack
NoPlan stack axis Number = ((x : AxisStack) × (stack ≡ axis_word x)) × NoNumber axis
NoPlan stack axis Axis = ((p : Plan) × RootStack stack p) × (axis ≢ no_axis)
NoPlan stack axis Hexadecimal = ⊥
NoPlan stack axis Memory = ⊥

abbrev pub PlanRead : List ℕ → List ℕ → Result Plan KeyFault → Type 0
PlanRead stack axis (Ok p) = Plans stack axis p
PlanRead stack axis (Err f) = NoPlan stack axis f

abbrev pub listed : KeyWords → List (List ℕ)
listed w = w.stack.now ∷ w.axis.now ∷ w.quota.now ∷ w.key.now ∷ w.number.now ∷ []

-- the words are those of the request
pub record Asks (w : KeyWords) (r : KeyRequest) : Type 0 where
  pub plan : Plans w.stack.now w.axis.now r.plan
  pub quota : Numeral w.quota.now r.quota
  pub key : Spells w.key.now (vec_items r.key)
  pub number : Numeral w.number.now r.number

-- the words are in order up to the axis, the quota, the key
abbrev pub Planned : KeyWords → Type 0
Planned w = (p : Plan) × Plans w.stack.now w.axis.now p

abbrev pub Rationed : KeyWords → Type 0
Rationed w = Planned w × ((n : ℕ) × Numeral w.quota.now n)

abbrev pub Keyed : KeyWords → Type 0
Keyed w = Rationed w × ((bytes : List ℕ) × Spells w.key.now bytes)

-- for each fault, what is the matter with the words
abbrev pub Refused : KeyWords → KeyFault → Type 0
Refused w Stack = NoPlan w.stack.now w.axis.now Stack
Refused w Axis = NoPlan w.stack.now w.axis.now Axis
Refused w Number =
    NoPlan w.stack.now w.axis.now Number
    ⊎ (Planned w × NoNumber w.quota.now)
    ⊎ (Keyed w × NoNumber w.number.now)
Refused w Hexadecimal = Rationed w × NoBytes w.key.now
Refused w Memory = Unit {0}

-- what the reading of the words answers
abbrev pub KeyRead : KeyWords → Result KeyRequest KeyFault → Type 0
KeyRead w (Ok r) = Asks w r
KeyRead w (Err f) = Refused w f
