-- How the entries of a URL are walked through.
use Rattle.std.specs.Prelude.{◌≡◌, ℕ, Bool, true, false, ◌&&◌, ◌||◌, if◌then◌else◌, List, Option, Some, None, IfSome}
use Rattle.std.specs.Option.{option_map}
use Rattle.std.specs.Ordering.{match_ordering}
use Rattle.slp_text.specs.Words.{bytes_cmp, texts_eq}
use Rattle.access_rules.specs.declared.rule.Action.TheVariants.{Withdraw}
use Rattle.access_rules.specs.Deciding.{deed}
use Rattle.registry_core.specs.declared.entry.Entry.{Entry}
use Rattle.registry_core.specs.Entries.{outlives}
use Rattle.directory_judge.specs.Judgements.{Grounds, because_of, denial_of, earlier_entry, is_kept, ruling_on, ruling_in}
use Rattle.directory_judge.specs.declared.withdrawals.RuledEntry.{RuledEntry}
use Rattle.directory_judge.specs.declared.withdrawals.Walk.{Walk}

-- the entry is live and of just these scopes
abbrev pub is_concerned : Grounds → List (List ℕ) → Entry → Bool
is_concerned g scopes e = outlives g.now e && texts_eq e.scopes scopes

abbrev pub entry_in : RuledEntry → Entry
entry_in r = r.entry.now

-- the one whose language comes first, of what was first so far and another
abbrev pub earlier_ruling : Option RuledEntry → RuledEntry → RuledEntry
earlier_ruling None r = r
earlier_ruling (Some f) r = match_ordering (bytes_cmp r.entry.now.language f.entry.now.language) r f f

-- what is first with an entry more, which counts or does not
abbrev pub first_with : Bool → Option Entry → Entry → Option Entry
first_with true o e = Some (earlier_entry o e)
first_with false o e = o

-- the entry is concerned, and may not be withdrawn
abbrev pub is_kept_back : Grounds → List (List ℕ) → Entry → Bool
is_kept_back g scopes e = is_concerned g scopes e && is_kept g.rules g.asker e

-- a walk with one more that is concerned
abbrev pub walk_with : Walk → RuledEntry → Walk
walk_with walk r = record {
  is_live = walk.is_live;
  first = Some (earlier_ruling walk.first r);
  kept = if r.finding.allow then walk.kept else Some (earlier_ruling walk.kept r);
}

-- what was found is what the rules say of the entry's withdrawal
abbrev pub IsRuling : Grounds → RuledEntry → Type 0
IsRuling g r = ruling_on g.rules (deed g.asker Withdraw r.entry.now.kind r.entry.now.owner) r.entry.now.scopes ≡ Some (ruling_in r.finding)

-- what was found denies the entry's withdrawal
abbrev pub IsDenial : Grounds → RuledEntry → Type 0
IsDenial g r = denial_of g.rules (deed g.asker Withdraw r.entry.now.kind r.entry.now.owner) r.entry.now.scopes ≡ Some (because_of r.finding)

-- what a walk keeps was ruled on, and what is kept back was denied
pub record IsRuledWalk (g : Grounds) (walk : Walk) : Type 0 where
  pub first : IfSome walk.first (IsRuling g)
  pub kept : IfSome walk.kept (IsDenial g)

-- a walk with an entry more
pub record IsVisit (g : Grounds) (scopes : List (List ℕ)) (e : Entry) (walk next : Walk) : Type 0 where
  pub is_live : next.is_live ≡ (walk.is_live || outlives g.now e)
  pub first : option_map entry_in next.first ≡ first_with (is_concerned g scopes e) (option_map entry_in walk.first) e
  pub kept : option_map entry_in next.kept ≡ first_with (is_kept_back g scopes e) (option_map entry_in walk.kept) e
