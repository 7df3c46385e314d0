-- What is stored in the order of its names, as a finite map.
use Rattle.std.proofs.Common.{◌≡◌, ℕ, ◌<◌, ◌≤◌, true, false, cond, zero, suc, List, [], ◌∷◌, ◌++◌, take, drop, get_or, length, Result, Some, None, Ok, Err, refl, sym, ap, subst, ◌∙◌, arith}
use Rattle.std.specs.Prelude.{nat_le, is_some}
use Rattle.std.specs.FinMap as fin
use Rattle.std.proofs.lemmas.Bool.Decides.{nat_tests}
use Rattle.std.proofs.lemmas.List.{length-map}
use Rattle.std.specs.List.Sorted.{IsBinarySearchResult, IsSearchInRange}
use Rattle.slp_text.specs.Words.{bytes_cmp}
use Rattle.attr_list.proofs.SortedByKey.{missed, searched, sorted-inserted, stored-inserted}
use Rattle.srv_template.specs.Conformity.{SiteTemplates}
use Rattle.srv_template.specs.Templates.{Template, added_to, most_templates, pair_in, templates_stored, AreStored}
use Rattle.srv_template.specs.declared.definition.Definition.{Definition}
use Rattle.srv_template.specs.declared.fault.ParseFault.TheVariants.{TwiceType, TooMany}

pub len-stored : (list : List Template) → AreStored list → fin.len (templates_stored list) ≡ length list
len-stored list h = fin.len-entries (templates_stored list) ∙ ap length (fin.entries-from_sorted bytes_cmp _ h) ∙ length-map list pair_in

pub none-stored : templates_stored [] ≡ fin.empty
none-stored = fin.empty_of_len _ (len-stored [] tt)

module _ (templates : SiteTemplates) (t : Template) where
  pub added-held : (ds : List Definition) → Some ds ≡ fin.get templates t.name → added_to templates t ≡ Err TwiceType
  added-held ds e = ap (λ o. cond (is_some o) (Err TwiceType) (cond (nat_le most_templates (fin.len templates)) (Err TooMany) (Ok (fin.insert templates t.name t.definitions)))) (sym e)

  added-new : None ≡ fin.get templates t.name → added_to templates t ≡ cond (nat_le most_templates (fin.len templates)) (Err TooMany) (Ok (fin.insert templates t.name t.definitions))
  added-new e = ap (λ o. cond (is_some o) (Err TwiceType) (cond (nat_le most_templates (fin.len templates)) (Err TooMany) (Ok (fin.insert templates t.name t.definitions)))) (sym e)

  pub added-full : None ≡ fin.get templates t.name → most_templates ≤ fin.len templates → added_to templates t ≡ Err TooMany
  added-full e h =
      let full : nat_le most_templates (fin.len templates) ≡ true = grind (arith, nat_tests) in
      added-new e ∙ ap (λ b. cond b (Err TooMany) (Ok (fin.insert templates t.name t.definitions))) full

  pub added-one : None ≡ fin.get templates t.name → fin.len templates < most_templates → added_to templates t ≡ Ok (fin.insert templates t.name t.definitions)
  added-one e h =
      let room : nat_le most_templates (fin.len templates) ≡ false = grind (arith, nat_tests) in
      added-new e ∙ ap (λ b. cond b (Err TooMany) (Ok (fin.insert templates t.name t.definitions))) room

same_at : (xs : List Template) (i : ℕ) (d e : Template) → i < length xs → get_or xs i d ≡ get_or xs i e
same_at [] i d e h = absurd (omega (arith, h))
same_at (x ∷ xs) zero d e h = refl
same_at (x ∷ xs) (suc i) d e h = same_at xs i d e (omega (arith, h))

-- what a search for the name of a template answers among those that are stored
module _ (list : List Template) (t : Template) (r : Result ℕ ℕ) (h : AreStored list) (within : IsSearchInRange r (length list)) (is : IsBinarySearchResult (λ a. bytes_cmp a.name t.name) list r) where
  pub adding-twice : (i : ℕ) → r ≡ Ok i → added_to (templates_stored list) t ≡ Err TwiceType
  adding-twice i e =
      let here : i < length list = subst (λ r. IsSearchInRange r (length list)) e within in
      added-held (templates_stored list) t _ (searched (λ a. a.name) (λ a. a.definitions) list t.name r h within is i (get_or list i t) e (same_at list i t (get_or list i t) here))

  pub adding-full : (at : ℕ) → r ≡ Err at → most_templates ≤ length list → added_to (templates_stored list) t ≡ Err TooMany
  adding-full at e n =
      added-full (templates_stored list) t (missed (λ a. a.name) (λ a. a.definitions) list t.name r h within is at e) (subst (λ k. most_templates ≤ k) (sym (len-stored list h)) n)

  pub adding-one : (at : ℕ) → r ≡ Err at → length list < most_templates → added_to (templates_stored list) t ≡ Ok (templates_stored (take at list ++ t ∷ drop at list))
  adding-one at e n =
      added-one (templates_stored list) t (missed (λ a. a.name) (λ a. a.definitions) list t.name r h within is at e) (subst (λ k. k < most_templates) (sym (len-stored list h)) n)
      ∙ ap Ok (sym (stored-inserted (λ a. a.name) (λ a. a.definitions) list t r h within is at e))

  pub still_stored : (at : ℕ) → r ≡ Err at → AreStored (take at list ++ t ∷ drop at list)
  still_stored at e = sorted-inserted (λ a. a.name) (λ a. a.definitions) list t r h within is at e
