-- Which line is which request, and what is the matter with a line that is none. Assumes nothing.
use Rattle.std.specs.Prelude.{◌≡◌, ℕ, ◌-◌, ◌<◌, ◌≤◌, ◌⊎◌, List, [], ◌∷◌, length, take, drop, replicate, Ok, Err, codes, Result, ◌≢◌}
use Rattle.text.specs.Hex.{Spells}
use Rattle.vectors.specs.Ciphers.{model_of}
use Rattle.text.specs.Words.{Words}
use Rattle.text.specs.Numerals.{Numeral}
use Rattle.vectors.specs.declared.kinds.CipherName.{CipherName}
use Rattle.vectors.specs.declared.kinds.CipherName.TheVariants.{Aes256, Magma}
use Rattle.vectors.specs.declared.kinds.Action.{Action}
use Rattle.vectors.specs.declared.kinds.Action.TheVariants.{Encipher as enciphering, Decipher as deciphering, Renew as renewing}
use Rattle.vectors.specs.declared.kinds.Request.{Request}
use Rattle.vectors.specs.declared.kinds.Task.{Task}
use Rattle.vectors.specs.declared.kinds.Task.TheVariants.{Encipher, Decipher, Renew}
use Rattle.vectors.specs.declared.kinds.Fault.{Fault}
use Rattle.vectors.specs.declared.kinds.Fault.TheVariants.{LongLine, UnknownRequest, WordCount, UnknownCipher, Hexadecimal, KeyLength, BlockLength, Number, Range, Memory}

abbrev pub action_word : Action → List ℕ
action_word enciphering = codes "encipher"
action_word deciphering = codes "decipher"
action_word renewing = codes "renew"

abbrev pub cipher_word : CipherName → List ℕ
cipher_word Aes256 = codes "aes256"
cipher_word Magma = codes "magma"

-- what the reading of a first word, and of a cipher's name, answers
abbrev pub ActionRead : List ℕ → Result Action Fault → Type 0
ActionRead word (Ok a) = word ≡ action_word a
ActionRead word (Err f) = (f ≡ UnknownRequest) × ((a : Action) → word ≢ action_word a)

abbrev pub CipherRead : List ℕ → Result CipherName Fault → Type 0
CipherRead word (Ok c) = word ≡ cipher_word c
CipherRead word (Err f) = (f ≡ UnknownCipher) × ((c : CipherName) → word ≢ cipher_word c)

-- the digits spell n bytes at the front of a buffer, and zeros follow them
abbrev pub SpellsFront : ℕ → ℕ → List ℕ → List ℕ → Type 0
SpellsFront room n text buffer = Spells text (take n buffer) × (drop n buffer ≡ replicate (room - n) 0)

abbrev pub SpellsKey : CipherName → List ℕ → List ℕ → Type 0
SpellsKey c = SpellsFront 32 (model_of c).key

abbrev pub SpellsBlock : CipherName → List ℕ → List ℕ → Type 0
SpellsBlock c = SpellsFront 16 (model_of c).block

-- the text spells no bytes; or others than n
abbrev pub NoBytes : List ℕ → Type 0
NoBytes text = (bytes : List ℕ) → Spells text bytes → ⊥

abbrev pub NotLong : ℕ → List ℕ → Type 0
NotLong n text = (bytes : List ℕ) × Spells text bytes × (length bytes ≢ n)

-- the fault of a word that should have spelled n bytes
abbrev pub BytesFault : Fault → ℕ → List ℕ → Fault → Type 0
BytesFault wrong n text f = ((f ≡ Hexadecimal) × NoBytes text) ⊎ ((f ≡ wrong) × NotLong n text) ⊎ (f ≡ Memory)

-- what the reading of a word answers: n bytes at the front of a buffer, a number of renewals
abbrev pub FrontRead : ℕ → ℕ → Fault → List ℕ → Result (List ℕ) Fault → Type 0
FrontRead room n wrong text (Ok buffer) = SpellsFront room n text buffer
FrontRead room n wrong text (Err f) = BytesFault wrong n text f

abbrev pub TimesFault : List ℕ → Fault → Type 0
TimesFault text f = ((f ≡ Number) × ((n : ℕ) → Numeral text n → ⊥)) ⊎ ((f ≡ Range) × ((n : ℕ) × Numeral text n × (4096 < n)))

abbrev pub TimesRead : List ℕ → Result ℕ Fault → Type 0
TimesRead text (Ok n) = Numeral text n × (n ≤ 4096)
TimesRead text (Err f) = TimesFault text f

-- the four words of a request
abbrev pub Four : List (List ℕ) → Action → CipherName → List ℕ → List ℕ → Type 0
Four ws a c key last = ws ≡ action_word a ∷ cipher_word c ∷ key ∷ last ∷ []

-- the words are those of the request
abbrev pub AsksTask : List (List ℕ) → CipherName → List ℕ → Task → Type 0
AsksTask ws c key (Encipher block) = (k b : List ℕ) × Four ws enciphering c k b × SpellsKey c k key × SpellsBlock c b block
AsksTask ws c key (Decipher block) = (k b : List ℕ) × Four ws deciphering c k b × SpellsKey c k key × SpellsBlock c b block
AsksTask ws c key (Renew times) = (k t : List ℕ) × Four ws renewing c k t × SpellsKey c k key × Numeral t times × (times ≤ 4096)

abbrev pub Asks : List (List ℕ) → Request → Type 0
Asks ws r = AsksTask ws r.cipher r.key r.task

-- the words ask for a block, with a key that is in order; or for a renewed key
abbrev pub BlockAsked : List (List ℕ) → CipherName → List ℕ → Type 0
BlockAsked ws c b = (k key : List ℕ) × (Four ws enciphering c k b ⊎ Four ws deciphering c k b) × SpellsKey c k key

abbrev pub RenewalAsked : List (List ℕ) → List ℕ → Type 0
RenewalAsked ws t = (c : CipherName) × (k key : List ℕ) × Four ws renewing c k t × SpellsKey c k key

-- for each fault, what is the matter with the words
abbrev pub Refused : List (List ℕ) → Fault → Type 0
Refused ws LongLine = ⊥
Refused ws UnknownRequest = (w : List ℕ) × (more : List (List ℕ)) × (ws ≡ w ∷ more) × ((a : Action) → w ≢ action_word a)
Refused ws WordCount = (a : Action) × (more : List (List ℕ)) × (ws ≡ action_word a ∷ more) × (length more ≢ 3)
Refused ws UnknownCipher = (a : Action) × (w k l : List ℕ) × (ws ≡ action_word a ∷ w ∷ k ∷ l ∷ []) × ((c : CipherName) → w ≢ cipher_word c)
Refused ws Hexadecimal =
    ((a : Action) × (c : CipherName) × (k l : List ℕ) × Four ws a c k l × NoBytes k) ⊎ ((c : CipherName) × (b : List ℕ) × BlockAsked ws c b × NoBytes b)
Refused ws KeyLength = (a : Action) × (c : CipherName) × (k l : List ℕ) × Four ws a c k l × NotLong (model_of c).key k
Refused ws BlockLength = (c : CipherName) × (b : List ℕ) × BlockAsked ws c b × NotLong (model_of c).block b
Refused ws Number = (t : List ℕ) × RenewalAsked ws t × ((n : ℕ) → Numeral t n → ⊥)
Refused ws Range = (t : List ℕ) × (n : ℕ) × RenewalAsked ws t × Numeral t n × (4096 < n)
Refused ws Memory = Unit {0}

abbrev pub Read : List (List ℕ) → Result Request Fault → Type 0
Read ws (Ok r) = Asks ws r
Read ws (Err f) = Refused ws f

-- what the reading of a line answers: a line too long is refused for that, and any other by its words
abbrev pub Parsed : List ℕ → Result Request Fault → Type 0
Parsed line r =
    ((length line ≤ 4096) × (ws : List (List ℕ)) × Words line ws × Read ws r)
    ⊎ ((4096 < length line) × (r ≡ Err LongLine))
    ⊎ (r ≡ Err Memory)
