-- What is told of the attributes of entries that are found is told of those that are asked about.
use Rattle.std.proofs.Common.{ℕ, List, Result}
use Rattle.std.specs.Prelude.{◌↔◌, IfOk, IsErrOf}
use Rattle.std.proofs.lemmas.Result.{IfOk-weaker}
use Rattle.slp_text.specs.Words.{bytes_eq}
use Rattle.attr_list.specs.Lists.{Attributes}
use Rattle.registry_core.specs.declared.entry.Entry.{Entry}
use Rattle.directory_judge.specs.History.{History}
use Rattle.directory_questions.specs.Calls.{Opening, standpoint}
use Rattle.directory_questions.specs.Items.{AreAttributesOf, AreJoined, IsAskedAbout, IsDescribed, IsElsewhere, IsOpenNow}
use Rattle.directory_questions.specs.declared.query.AttrQuery.{AttrQuery}
use Rattle.directory_questions.specs.declared.query.QueryFault.{QueryFault}
use Rattle.directory_questions.specs.declared.query.QueryFault.TheVariants as fault
use Rattle.directory_state.specs.Searches.{IsIn, IsInAnd}
use Rattle.directory_state.proofs.Outcomes.{elsewhere-carried, flipped}
use Rattle.directory_state.proofs.SameAnswers.{joined-carried}

module _ (o : Opening) (h : History) (m asker : ℕ) (q : AttrQuery) (es : List Entry) (alike : (e : Entry) → IsIn es e ↔ IsAskedAbout (IsOpenNow (standpoint o h m asker) q.scopes) q e)
    (r : Result Attributes QueryFault) where
  abbrev IsAsked : Entry → Type 0
  IsAsked = IsAskedAbout (IsOpenNow (standpoint o h m asker) q.scopes) q

  pub language-told : (IsErrOf r fault.Language → IsElsewhere (IsIn es) q.language) → IfOk r (λ _. ¬ IsElsewhere (IsIn es) q.language)
      → (IsErrOf r fault.Language → IsElsewhere IsAsked q.language) × IfOk r (λ _. ¬ IsElsewhere IsAsked q.language)
  language-told is none = (
    (λ k. elsewhere-carried (IsIn es) IsAsked alike q.language (is k)),
    IfOk-weaker r _ _ (λ a nowhere f. nowhere (elsewhere-carried IsAsked (IsIn es) (flipped (IsIn es) IsAsked alike) q.language f)) none,
  )

  pub attributes-told : IfOk r (λ a. AreJoined (IsInAnd es (λ e. bytes_eq e.language q.language)) q a) → IfOk r (λ a. AreAttributesOf (standpoint o h m asker) q a)
  attributes-told =
      IfOk-weaker r _ _
      (λ a is. joined-carried (IsInAnd es (λ e. bytes_eq e.language q.language)) (IsDescribed (IsOpenNow (standpoint o h m asker) q.scopes) q)
      (λ e. ((λ k. record { matched = (alike e).0 k.0; language = k.1 }), (λ d. ((alike e).1 d.matched, d.language)))) q a is)
