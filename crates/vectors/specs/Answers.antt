-- What a line is answered with. Assumes nothing.
use Rattle.std.specs.Prelude.{◌≡◌, ℕ, zero, suc, List, take, Ok, Err, Result}
use Rattle.cipher.specs.Model.{Model}
use Rattle.cipher.specs.Derivation.{renewed}
use Rattle.text.specs.Hex.{encoded}
use Rattle.vectors.specs.Ciphers.{model_of}
use Rattle.vectors.specs.Requests.{Parsed}
use Rattle.vectors.specs.declared.kinds.Request.{Request}
use Rattle.vectors.specs.declared.kinds.Task.{Task}
use Rattle.vectors.specs.declared.kinds.Task.TheVariants.{Encipher, Decipher, Renew}
use Rattle.vectors.specs.declared.kinds.Fault.{Fault}
use Rattle.vectors.specs.Faults.{message}

-- f so many times over
abbrev pub repeated : ℕ → (List ℕ → List ℕ) → List ℕ → List ℕ
repeated zero f x = x
repeated (suc n) f x = f (repeated n f x)

-- the bytes that a request asks for
abbrev pub done : Model → List ℕ → Task → List ℕ
done m key (Encipher block) = m.enc (take m.key key) (take m.block block)
done m key (Decipher block) = m.dec (take m.key key) (take m.block block)
done m key (Renew times) = repeated times (renewed m) (take m.key key)

abbrev pub answered : Request → List ℕ
answered r = done (model_of r.cipher) r.key r.task

abbrev pub reply : Result Request Fault → List ℕ
reply (Ok r) = encoded (answered r)
reply (Err f) = message f

-- the text answers the line
abbrev pub Answers : List ℕ → List ℕ → Type 0
Answers line text = (r : Result Request Fault) × Parsed line r × (text ≡ reply r)
