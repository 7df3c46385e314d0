-- What the words of an operator ask for, line by line.
use Rattle.std.specs.Prelude.{◌≡◌, ℕ, Bool, true, false, ◌==◌, List, [], ◌∷◌, ◌++◌, codes, take, if◌then◌else◌, Result, Ok, Err}
use Rattle.std.specs.IoError.{error_kind}
use Rattle.std.specs.declared.io.Error.{Error}
use Rattle.std.specs.declared.io.ErrorKind.{ErrorKind}
use Rattle.std.specs.declared.io.ErrorKind.TheVariants.{Interrupted, WouldBlock}
use Rattle.slp_text.specs.Ascii.{line_feed}
use Rattle.slp_text.specs.Words.{bytes_eq}
use Rattle.agent_watch.specs.declared.words.End.{End}
use Rattle.agent_watch.specs.declared.words.End.TheVariants.{Well, Badly}
use Rattle.agent_watch.specs.declared.words.Word.{Word}
use Rattle.agent_watch.specs.declared.words.Word.TheVariants.{Reload, Sweep, Stop, Unknown}

-- what a line asks for
abbrev pub word_in : List ℕ → Word
word_in line =
    if bytes_eq line (codes "reload") then Reload
    else (if bytes_eq line (codes "sweep") then Sweep
    else (if bytes_eq line (codes "stop") then Stop
    else Unknown))

-- the front of a line that is kept: more than any word has
abbrev pub kept : List ℕ → List ℕ
kept line = take 16 line

-- what may come of a word: who acts on it before, whether words are taken still, and who acts after
abbrev pub Acts : Type 0 → Type 1
Acts A = A → Word → Bool → A → Type 0

-- what one reading of an input comes to
pub data Reading : Type 0 where
  -- these bytes came; none at the end
  Brought : List ℕ → Reading
  -- it failed, for this reason
  Failed : ErrorKind → Reading

-- what an input may bring: the input before, what it brings, and the input after
abbrev pub Inputs : Type 0 → Type 1
Inputs I = I → Reading → I → Type 0

abbrev pub reading : Result ℕ Error → List ℕ → Reading
reading (Ok count) chunk = Brought (take count chunk)
reading (Err e) chunk = Failed (error_kind e)

-- an input brings these, one after the other
abbrev pub Gives : {I : Type 0} → Inputs I → I → List Reading → I → Type 0
Gives gives before [] after = after ≡ before
Gives {I = I} gives before (r ∷ rs) after = (between : I) × gives before r between × Gives gives between rs after

-- The bytes that a reading brings: none where it was interrupted, or nothing was there, and it is made again. Where the input is over it says how that ended:
-- well where no more come, and badly where it failed.
abbrev pub piece_of : Reading → Result (List ℕ) End
piece_of (Brought []) = Err Well
piece_of (Brought (b ∷ bs)) = Ok (b ∷ bs)
piece_of (Failed Interrupted) = Ok []
piece_of (Failed WouldBlock) = Ok []
piece_of (Failed kind) = Err Badly

-- the same of what lies in front of what was read
abbrev pub piece_in : List ℕ → Result ℕ End → Result (List ℕ) End
piece_in chunk (Ok count) = Ok (take count chunk)
piece_in chunk (Err end) = Err end

module _ {A : Type 0} (acts : Acts A) where
  -- one byte behind a line that is begun: at the line's end it is acted on
  abbrev pub TakesByte : A → List ℕ → ℕ → Bool → List ℕ → A → Type 0
  TakesByte before line byte told rest after = elim (byte == line_feed) [
    | true ↦ acts before (word_in line) told after × (rest ≡ [])
    | false ↦ (told ≡ true) × (rest ≡ kept (line ++ byte ∷ [])) × (after ≡ before)
  ]

  -- bytes, one after the other, until words are no longer taken
  abbrev pub Takes : A → List ℕ → List ℕ → Bool → List ℕ → A → Type 0
  Takes before line [] told rest after = (told ≡ true) × (rest ≡ line) × (after ≡ before)
  Takes before line (b ∷ bs) told rest after = (goes_on : Bool) × (begun : List ℕ) × (between : A) × TakesByte before line b goes_on begun between × elim goes_on [
    | true ↦ Takes between begun bs told rest after
    | false ↦ (told ≡ false) × (after ≡ between)
  ]

  -- the last line, which has no end
  abbrev pub TakesLast : A → List ℕ → A → Type 0
  TakesLast before [] after = after ≡ before
  TakesLast before (b ∷ bs) after = (told : Bool) × acts before (word_in (b ∷ bs)) told after

  -- The lines of what is brought are acted on, each once and in order, until one is the last, which is a good end, or the input is over.
  abbrev pub Hears : A → List ℕ → List Reading → End → A → Type 0
  Hears before line [] end after = ⊥
  Hears before line (r ∷ rs) end after = elim (piece_of r) [
    | Err ended ↦ (rs ≡ []) × (end ≡ ended) × TakesLast before line after
    | Ok piece ↦ (told : Bool) × (rest : List ℕ) × (between : A) × Takes before line piece told rest between × elim told [
      | true ↦ Hears between rest rs end after
      | false ↦ (rs ≡ []) × (end ≡ Well) × (after ≡ between)
    ]
  ]
