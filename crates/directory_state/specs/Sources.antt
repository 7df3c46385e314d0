-- What a question is answered from: a directory, or what was gathered of one.
use Rattle.std.specs.Prelude.{◌≡◌, ◌-◌, ◌^◌, ℕ, List, map, vec_items}
use Rattle.std.specs.Arc.{arc_value}
use Rattle.registry_core.specs.declared.entry.Entry.{Entry}
use Rattle.registry_core.specs.Entries.{IsListing}
use Rattle.directory_judge.specs.History.{History}
use Rattle.directory_judge.specs.Sites.{Site}
use Rattle.directory_questions.specs.Calls.{Opening}
use Rattle.directory_questions.specs.Items.{is_target}
use Rattle.directory_questions.specs.declared.query.Target.{Target}
use Rattle.directory_state.specs.Folds.{Fold}
use Rattle.directory_state.specs.State.{State}
use Rattle.directory_state.specs.declared.gathered.Gathered.{Gathered}
use Rattle.directory_state.specs.declared.source.Source.{Source}
use Rattle.directory_state.specs.declared.source.Source.TheVariants.{Whole, Part}

-- the entries that were gathered
abbrev pub entries_gathered : Gathered → List Entry
entries_gathered g = map arc_value (vec_items g.entries)

-- it is what a state has of what a question is about, with what decides there
pub record IsGathered (t : Target) (s : State) (g : Gathered) : Type 0 where
  pub listing : IsListing (is_target t) s.entries (entries_gathered g)
  pub ruled : arc_value g.rules ≡ s.rules
  pub placed : arc_value g.site ≡ s.site
  pub clocks : g.clock ≡ s.clock

module _ {R : Type 0} where
  abbrev pub site_of : Source R → Site
  site_of (Whole d n) = d.now.site
  site_of (Part g) = arc_value g.now.site

  abbrev pub clock_of : Source R → ℕ
  clock_of (Whole d n) = d.now.clock
  clock_of (Part g) = g.now.clock

  -- these are the entries that a question is about
  abbrev pub AreEntriesOf : Target → Source R → List Entry → Type 0
  AreEntriesOf t (Whole d n) es = IsListing (is_target t) d.now.entries es
  AreEntriesOf t (Part g) es = es ≡ entries_gathered g.now

  -- a question about this is answered from a state
  abbrev pub IsSourceOf : Target → State → Source R → Type 0
  IsSourceOf t s (Whole d n) = d.now ≡ s
  IsSourceOf t s (Part g) = IsGathered t s g.now

  -- a search looks at all that it may need
  abbrev pub IsUnbounded : Source R → Type 0
  IsUnbounded (Whole d n) = n ≡ 2 ^ 64 - 1
  IsUnbounded (Part g) = Unit

  -- it is answered at a history
  pub record IsSourceAt (o : Opening) (h : History) (t : Target) (from : Source R) : Type 0 where
    pub state : State
    pub fold : Fold o h state
    pub source : IsSourceOf t state from

-- it was gathered, for a question about this, at a history
pub record IsGatheredAt (o : Opening) (h : History) (t : Target) (g : Gathered) : Type 0 where
  pub state : State
  pub fold : Fold o h state
  pub gathered : IsGathered t state g
