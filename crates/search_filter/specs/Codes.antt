-- How filters are stored as data: as a list, each filter after those in it.
use Rattle.std.specs.Prelude.{◌≡◌, ◌⊎◌, ℕ, List, [], ◌∷◌, ◌==◌, Option, Some, None, refl, if◌then◌else◌}
use Rattle.std.proofs.Common.{ap, ◌∙◌}
use Rattle.std.specs.Coded.{Coded, code_by, coded×, coded⊎, coded_ℕ, coded_list, coded_option}
use mathlib.Core.Logic.{inl, inr}
use Rattle.slp_tags.specs.Tags.{Sign}
use Rattle.search_filter.specs.Filters.{Filter, Filters, all, any, negated, item, none, more}
use Rattle.search_filter.specs.Reading.{filters_with}
use Rattle.search_filter.specs.declared.item.Condition.{Condition}
use Rattle.search_filter.specs.declared.item.Condition.TheVariants.{Present, Equal, AtLeast, AtMost, Like}
use Rattle.search_filter.specs.declared.item.Item.{Item}
use Rattle.attr_operands.specs.Codes.{OperandChoice, operand_choice, operand_from, operand_back, operand_choice_code}

-- ---- an item

-- a condition as a comparison with an operand, or a pattern, if it is not that the tag is there
abbrev pub ConditionChoice : Type 0
ConditionChoice = (ℕ × OperandChoice) ⊎ Option (List Sign)

abbrev pub condition_choice : Condition → ConditionChoice
condition_choice Present = inr None
condition_choice (Equal o) = inl (0, operand_choice o)
condition_choice (AtLeast o) = inl (1, operand_choice o)
condition_choice (AtMost o) = inl (2, operand_choice o)
condition_choice (Like p) = inr (Some p)

abbrev pub condition_from : ConditionChoice → Condition
condition_from (inl c) = if c.0 == 0 then Equal (operand_from c.1) else (if c.0 == 1 then AtLeast (operand_from c.1) else AtMost (operand_from c.1))
condition_from (inr None) = Present
condition_from (inr (Some p)) = Like p

abbrev pub condition_back : (c : Condition) → condition_from (condition_choice c) ≡ c
condition_back Present = refl
condition_back (Equal o) = ap Equal (operand_back o)
condition_back (AtLeast o) = ap AtLeast (operand_back o)
condition_back (AtMost o) = ap AtMost (operand_back o)
condition_back (Like p) = refl

-- ---- a filter

-- an item, or the end of `&`, `|` or `!`, or their beginning
abbrev pub Mark : Type 0
Mark = (List ℕ × ConditionChoice) ⊎ ℕ

abbrev pub item_mark : Item → Mark
item_mark i = inl (i.tag, condition_choice i.condition)

abbrev mutual
  pub marks_before : Filter → List Mark → List Mark
  marks_before (all fs) rest = inr 3 ∷ marks_of_each fs (inr 0 ∷ rest)
  marks_before (any fs) rest = inr 3 ∷ marks_of_each fs (inr 1 ∷ rest)
  marks_before (negated f) rest = inr 3 ∷ marks_before f (inr 2 ∷ rest)
  marks_before (item i) rest = item_mark i ∷ rest

  pub marks_of_each : Filters → List Mark → List Mark
  marks_of_each none rest = rest
  marks_of_each (more f fs) rest = marks_before f (marks_of_each fs rest)

-- the first of some filters
abbrev pub first_of : Filters → Filter
first_of none = all none
first_of (more f fs) = f

-- what a mark makes of the filters so far, those of the innermost first
abbrev pub ended : ℕ → Filters → Filter
ended mark fs = if mark == 0 then all fs else (if mark == 1 then any fs else negated (first_of fs))

abbrev pub joined : Filter → List Filters → List Filters
joined f [] = []
joined f (fs ∷ outer) = filters_with fs f ∷ outer

abbrev pub marked : Mark → List Filters → List Filters
marked (inl i) outer = joined (item (record { tag = i.0; condition = condition_from i.1 })) outer
marked (inr mark) [] = []
marked (inr mark) (fs ∷ outer) = if mark == 3 then none ∷ fs ∷ outer else joined (ended mark fs) outer

abbrev pub filters_by : List Mark → List Filters → List Filters
filters_by [] outer = outer
filters_by (m ∷ ms) outer = filters_by ms (marked m outer)

abbrev pub filter_by : List Filters → Filter
filter_by [] = all none
filter_by (fs ∷ outer) = first_of fs

abbrev pub filter_from : List Mark → Filter
filter_from ms = filter_by (filters_by ms (none ∷ []))

abbrev pub followed : Filters → Filters → Filters
followed fs none = fs
followed fs (more g gs) = followed (filters_with fs g) gs

abbrev pub first_followed : (g : Filter) (fs gs : Filters) → followed (more g fs) gs ≡ more g (followed fs gs)
first_followed g fs none = refl
first_followed g fs (more h hs) = first_followed g (filters_with fs h) hs

abbrev pub followed_none : (fs : Filters) → followed none fs ≡ fs
followed_none none = refl
followed_none (more g gs) = first_followed g none gs ∙ ap (more g) (followed_none gs)

abbrev mutual
  pub filter_marked : (f : Filter) (rest : List Mark) (fs : Filters) (outer : List Filters) → filters_by (marks_before f rest) (fs ∷ outer) ≡ filters_by rest (filters_with fs f ∷ outer)
  filter_marked (all gs) rest fs outer = filters_marked gs (inr 0 ∷ rest) none (fs ∷ outer) ∙ ap (λ hs. filters_by rest (filters_with fs (all hs) ∷ outer)) (followed_none gs)
  filter_marked (any gs) rest fs outer = filters_marked gs (inr 1 ∷ rest) none (fs ∷ outer) ∙ ap (λ hs. filters_by rest (filters_with fs (any hs) ∷ outer)) (followed_none gs)
  filter_marked (negated f) rest fs outer = filter_marked f (inr 2 ∷ rest) none (fs ∷ outer)
  filter_marked (item i) rest fs outer = ap (λ c. filters_by rest (filters_with fs (item (record { tag = i.tag; condition = c })) ∷ outer)) (condition_back i.condition)

  pub filters_marked : (gs : Filters) (rest : List Mark) (fs : Filters) (outer : List Filters) → filters_by (marks_of_each gs rest) (fs ∷ outer) ≡ filters_by rest (followed fs gs ∷ outer)
  filters_marked none rest fs outer = refl
  filters_marked (more g gs) rest fs outer = filter_marked g (marks_of_each gs rest) fs outer ∙ filters_marked gs rest (filters_with fs g) outer

abbrev pub filter_back : (f : Filter) → filter_from (marks_before f []) ≡ f
filter_back f = ap filter_by (filter_marked f [] none [])

abbrev pub condition_choice_code : Coded ConditionChoice
condition_choice_code = coded⊎ (coded× coded_ℕ operand_choice_code) (coded_option (coded_list (coded_option coded_ℕ)))

abbrev pub filter_code : Coded Filter
filter_code = code_by (List Mark) (coded_list (coded⊎ (coded× (coded_list coded_ℕ) condition_choice_code) coded_ℕ)) (λ f. marks_before f []) filter_from filter_back
