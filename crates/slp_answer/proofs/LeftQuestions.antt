-- Which questions are answered while the directory is read.
use Rattle.std.proofs.Common.{◌≡◌, false, refl}
use Rattle.directory_questions.specs.declared.query.AttrQuery.{AttrQuery}
use Rattle.directory_questions.specs.declared.question.Question.{Question}
use Rattle.directory_questions.specs.declared.question.Question.TheVariants.{Silent, Unreadable, Services, Attributes, Types, Agents}
use Rattle.slp_answer.specs.Gathering.{is_always_gathered}

-- those that are not about attributes
pub answered-inside : (q : Question) → ((a : AttrQuery) → q ≡ Attributes a → ⊥) → is_always_gathered q ≡ false
answered-inside Silent other = refl
answered-inside Unreadable other = refl
answered-inside (Services q) other = refl
answered-inside (Attributes q) other = absurd (other q refl)
answered-inside (Types q) other = refl
answered-inside (Agents q) other = refl
