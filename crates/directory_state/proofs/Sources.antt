-- What a question is answered from has the entries that it is about.
use Rattle.std.proofs.Common.{◌≡◌, Bool, List, Option, Some, sym, ap, subst, ◌∙◌, filter}
use Rattle.std.specs.Prelude.{IfSome}
use Rattle.registry_core.specs.declared.entry.Entry.{Entry}
use Rattle.registry_core.specs.Entries.{IsListing}
use Rattle.directory_judge.specs.History.{History}
use Rattle.directory_questions.specs.Calls.{Opening}
use Rattle.directory_questions.specs.Items.{is_target}
use Rattle.directory_questions.specs.declared.query.Target.{Target}
use Rattle.directory_state.specs.Sources.{clock_of, site_of, AreEntriesOf, IsSourceAt, IsSourceOf}
use Rattle.directory_state.specs.Searches.{HasOneOfEachPair}
use Rattle.directory_state.specs.State.{State}
use Rattle.directory_state.proofs.OpenEntries.{from-filter}
use Rattle.directory_state.specs.declared.source.Source.{Source}
use Rattle.directory_state.specs.declared.source.Source.TheVariants.{Whole, Part}

module _ {R : Type 0} (t : Target) (s : State) where
  pub source-listing : (source : Source R) (es : List Entry) → IsSourceOf t s source → AreEntriesOf t source es → IsListing (is_target t) s.entries es
  source-listing (Whole d n) es is are = subst (λ (x : State). IsListing (is_target t) x.entries es) is are
  source-listing (Part g) es is are = subst (λ xs. IsListing (is_target t) s.entries xs) (sym are) is.listing

  pub source-clock : (source : Source R) → IsSourceOf t s source → clock_of source ≡ s.clock
  source-clock (Whole d n) is = ap (λ (x : State). x.clock) is
  source-clock (Part g) is = is.clocks

  pub source-site : (source : Source R) → IsSourceOf t s source → site_of source ≡ s.site
  source-site (Whole d n) is = ap (λ (x : State). x.site) is
  source-site (Part g) is = is.placed

-- its site is that of the directory
pub source-placed : {R : Type 0} (o : Opening) (h : History) (t : Target) (source : Source R) → IsSourceAt o h t source → site_of source ≡ o.site
source-placed o h t source k = source-site t k.state source k.source ∙ k.fold.placed

pub once-filtered : (p : Entry → Bool) (es : List Entry) → HasOneOfEachPair es → HasOneOfEachPair (filter p es)
once-filtered p es once e f has other same = once e f (from-filter p es e has) (from-filter p es f other) same

-- what is said of what there is, said of it
pub of-some : {A : Type 0} (o : Option A) (P : A → Type 0) (a : A) → o ≡ Some a → IfSome o P → P a
of-some o P a is says = subst (λ x. IfSome x P) is says
