-- Questions that are answered from what was gathered for them.
use Rattle.std.specs.Prelude.{◌≡◌, ℕ, Bool, true, false, List, [], Result, Ok, Err, is_some}
use Rattle.slp_fields.specs.declared.fault.WireFault.{WireFault}
use Rattle.directory_judge.specs.History.{History}
use Rattle.directory_questions.specs.Calls.{Opening, Call}
use Rattle.directory_questions.specs.declared.query.Target.TheVariants.{Kind}
use Rattle.directory_questions.specs.declared.question.Question.{Question}
use Rattle.directory_questions.specs.declared.question.Question.TheVariants.{Silent, Unreadable, Services, Attributes, Types, Agents}
use Rattle.directory_state.specs.Sources as sources
use Rattle.directory_state.specs.declared.gathered.Gathered.{Gathered}
use Rattle.slp_answer.specs.Answers.{Replies}
use Rattle.slp_answer.specs.declared.gathering.Begun.{Begun}
use Rattle.slp_answer.specs.declared.gathering.Begun.TheVariants.{Told, Left}

-- it is about attributes
abbrev pub is_always_gathered : Question → Bool
is_always_gathered Silent = false
is_always_gathered Unreadable = false
is_always_gathered (Services q) = false
is_always_gathered (Attributes q) = true
is_always_gathered (Types q) = false
is_always_gathered (Agents q) = false

-- it has a filter, or is about attributes
abbrev pub is_gathered : Question → Bool
is_gathered Silent = false
is_gathered Unreadable = false
is_gathered (Services q) = is_some q.filter
is_gathered (Attributes q) = true
is_gathered (Types q) = false
is_gathered (Agents q) = false

-- it was gathered at a history
abbrev pub IsGatheredAt : Opening → History → Question → Gathered → Type 0
IsGatheredAt o h Silent g = ⊥
IsGatheredAt o h Unreadable g = ⊥
IsGatheredAt o h (Services q) g = sources.IsGatheredAt o h (Kind q.kind) g
IsGatheredAt o h (Attributes q) g = sources.IsGatheredAt o h q.target g
IsGatheredAt o h (Types q) g = ⊥
IsGatheredAt o h (Agents q) g = ⊥

-- what is answered is not about attributes; what is left is a question for which something is gathered, and nothing of its answer is written
abbrev pub IsBegun : Result Question WireFault → Begun → List ℕ → List ℕ → Type 0
IsBegun (Ok q) (Told what) reply line = is_always_gathered q ≡ false
IsBegun (Err e) (Told what) reply line = Unit
IsBegun (Ok q) (Left g) reply line = (is_gathered q ≡ true) × (reply ≡ []) × (line ≡ [])
IsBegun (Err e) (Left g) reply line = ⊥

-- it was begun at a history
abbrev pub IsBegunAt : Opening → History → Call → Result Question WireFault → Begun → List ℕ → List ℕ → Type 0
IsBegunAt o h c read (Told what) reply line = Replies o h c what reply line
IsBegunAt o h c (Ok q) (Left g) reply line = IsGatheredAt o h q g
IsBegunAt o h c (Err e) (Left g) reply line = ⊥
