-- Why the last word of a request is refused. Assumes nothing.
use Rattle.std.proofs.Common.{ℕ, List, [], ◌∷◌, refl, inl, inr}
use Rattle.vectors.specs.Ciphers.{model_of}
use Rattle.vectors.specs.Requests.{action_word, cipher_word, SpellsKey, BytesFault, TimesFault, Refused}
use Rattle.vectors.specs.declared.kinds.CipherName.{CipherName}
use Rattle.vectors.specs.declared.kinds.Action.{Action}
use Rattle.vectors.specs.declared.kinds.Action.TheVariants.{Encipher as enciphering, Decipher as deciphering, Renew as renewing}
use Rattle.vectors.specs.declared.kinds.Fault.{Fault}
use Rattle.vectors.specs.declared.kinds.Fault.TheVariants.{BlockLength}

-- the fault of a last word that a first word asks for
abbrev pub LastFault : Action → CipherName → List ℕ → Fault → Type 0
LastFault enciphering c l f = BytesFault BlockLength (model_of c).block l f
LastFault deciphering c l f = BytesFault BlockLength (model_of c).block l f
LastFault renewing c l f = TimesFault l f

pub last_refused : (a : Action) (c : CipherName) (k key l : List ℕ) (f : Fault) → SpellsKey c k key → LastFault a c l f → Refused (action_word a ∷ cipher_word c ∷ k ∷ l ∷ []) f
last_refused enciphering c k key l f s (inl (e, none)) = rw e (inr (c, l, (k, key, inl refl, s), none))
last_refused enciphering c k key l f s (inr (inl (e, other))) = rw e (c, l, (k, key, inl refl, s), other)
last_refused enciphering c k key l f s (inr (inr e)) = rw e tt
last_refused deciphering c k key l f s (inl (e, none)) = rw e (inr (c, l, (k, key, inr refl, s), none))
last_refused deciphering c k key l f s (inr (inl (e, other))) = rw e (c, l, (k, key, inr refl, s), other)
last_refused deciphering c k key l f s (inr (inr e)) = rw e tt
last_refused renewing c k key l f s (inl (e, none)) = rw e (l, (c, k, key, refl, s), none)
last_refused renewing c k key l f s (inr (e, (n, is, above))) = rw e (l, n, (c, k, key, refl, s), is, above)
