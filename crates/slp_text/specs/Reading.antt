-- What a reader of texts answers.
use Rattle.std.specs.Prelude.{◌≡◌, ℕ, IsUtf8, List, [], ◌∷◌, Result, Ok, Err}
use Rattle.slp_text.specs.declared.faults.TextFault.{TextFault}
use Rattle.slp_text.specs.declared.faults.TextFault.TheVariants.{BadEscape, Reserved, NotUtf8, NoMemory}

-- the fault that reading gives, unless memory ran out
abbrev pub IsFault : {A : Type 0} → TextFault → Result A TextFault → Type 0
IsFault NoMemory read = Unit {0}
IsFault BadEscape read = read ≡ Err BadEscape
IsFault Reserved read = read ≡ Err Reserved
IsFault NotUtf8 read = read ≡ Err NotUtf8

-- what reading gives, unless memory ran out
abbrev pub IsReading : {A : Type 0} → Result A TextFault → Result A TextFault → Type 0
IsReading (Ok x) read = read ≡ Ok x
IsReading (Err e) read = IsFault e read

-- what is made of what was read, if it was
abbrev pub read_map : {A B E : Type 0} → (A → B) → Result A E → Result B E
read_map f (Ok x) = Ok (f x)
read_map f (Err e) = Err e

-- what is read then
abbrev pub read_then : {A B E : Type 0} → (A → Result B E) → Result A E → Result B E
read_then f (Ok x) = f x
read_then f (Err e) = Err e

-- what is read of all: the first fault from the left, if there is one
abbrev pub read_all : {A B E : Type 0} → (A → Result B E) → List A → Result (List B) E
read_all f [] = Ok []
read_all f (x ∷ xs) = read_then (λ y. read_map (λ ys. y ∷ ys) (read_all f xs)) (f x)

-- what reading gives, which is a text where its bytes are UTF-8, unless memory ran out
abbrev pub IsByteReading : Result (List ℕ) TextFault → Result (List ℕ) TextFault → Type 0
IsByteReading (Ok t) read = read ≡ Ok t
IsByteReading (Err NoMemory) read = Unit {0}
IsByteReading (Err BadEscape) read = read ≡ Err BadEscape
IsByteReading (Err Reserved) read = read ≡ Err Reserved
IsByteReading (Err NotUtf8) read = (bytes : List ℕ) × (read ≡ Ok bytes) × (¬ IsUtf8 bytes)
