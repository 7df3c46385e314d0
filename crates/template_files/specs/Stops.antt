-- What the reader of lines answers.
use Rattle.std.specs.Prelude.{◌≡◌, ℕ, List, map, Result, Ok, Err}
use denote.Ref.{Bor}
use Rattle.template_files.specs.declared.lines.Stop.{Stop}
use Rattle.template_files.specs.declared.lines.Stop.TheVariants.{Left, NoMemory}

-- the texts that are lent
abbrev pub texts_of : List (Bor (List ℕ)) → List (List ℕ)
texts_of = map (λ l. l.now)

-- where reading stops, unless memory ran out
abbrev pub IsStop : {A : Type 0} → Stop → Result A ℕ → Type 0
IsStop (Left n) read = read ≡ Err n
IsStop NoMemory read = Unit {0}

-- what it gives, unless memory ran out
abbrev pub IsRead : {A : Type 0} → Result A Stop → Result A ℕ → Type 0
IsRead (Ok x) read = read ≡ Ok x
IsRead (Err e) read = IsStop e read
