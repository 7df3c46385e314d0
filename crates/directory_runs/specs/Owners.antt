-- What another registered.
use Rattle.std.specs.Prelude.{◌≡◌, Bool, true, false}
use Rattle.std.specs.List.{list_all, AllByRecursion}
use Rattle.access_rules.specs.Deciding.{is_owners, is_without_owners, rules_in}
use Rattle.access_rules.specs.declared.rule.Action.{Action}
use Rattle.access_rules.specs.declared.rule.Action.TheVariants as action
use Rattle.registry_core.specs.Entries.{is_registered, pair_eq, pair_of}
use Rattle.registry_core.specs.declared.entry.Entry.{Entry}
use Rattle.directory_judge.specs.History.{Act, Put, Set, Remove, Withdraw, Sweep, Reload, History}
use Rattle.directory_judge.specs.Meaning.{rules}
use Rattle.directory_questions.specs.Calls.{Opening, Standpoint}

-- each rule about this action is about owners alone, where it is asked
abbrev pub IsForOwners : Standpoint → Action → Type 0
IsForOwners from a = list_all (is_owners a) (rules_in (rules from.opening.rules from.history)) ≡ true

-- what the rules are asked for an act
abbrev pub action_of_act : Act → Action
action_of_act (Put p) = action.Register
action_of_act (Set s) = action.Register
action_of_act (Remove r) = action.Withdraw
action_of_act (Withdraw w) = action.Withdraw
action_of_act Sweep = action.Withdraw
action_of_act (Reload rs) = action.Withdraw

-- an act replaces the entry, updates it, or withdraws it or some of its tags
abbrev pub changes : Act → Entry → Bool
changes (Put p) e = pair_eq (p.url, p.language) (pair_of e)
changes (Set s) e = pair_eq (s.url, s.language) (pair_of e)
changes (Remove r) e = pair_eq (r.url, r.language) (pair_of e)
changes (Withdraw w) e = is_registered w.url w.scopes e
changes Sweep e = false
changes (Reload rs) e = false

-- it brings no rule about owners
abbrev pub BringsNoOwners : Act → Type 0
BringsNoOwners (Reload rs) = is_without_owners rs ≡ true
BringsNoOwners (Put p) = Unit {0}
BringsNoOwners (Set s) = Unit {0}
BringsNoOwners (Remove r) = Unit {0}
BringsNoOwners (Withdraw w) = Unit {0}
BringsNoOwners Sweep = Unit {0}

-- no rule about owners was there from the beginning on, as with files of version 1
abbrev pub IsWithoutOwners : Opening → History → Type 0
IsWithoutOwners o h = (is_without_owners o.rules ≡ true) × AllByRecursion (λ c. BringsNoOwners c.act) h
