-- What is judged of the entry that a registration names: its URL, language and type, the supported scopes, the attributes, and the deadline.
use Rattle.std.specs.Prelude.{◌≡◌, ℕ, ◌+◌, Bool, true, false, Some, unwrap_or}
use Rattle.std.specs.Option.{option_or}
use Rattle.std.specs.FinMap as fin
use Rattle.registry_core.specs.declared.entry.Entry.{Entry}
use Rattle.registry_core.specs.Entries.{Entries, Pair, pair_of}
use Rattle.directory_judge.specs.History.{Act, Putting, Put, Setting, Set}
use Rattle.directory_judge.specs.Contents.{entry_of}
use Rattle.directory_judge.specs.Judgements.{Grounds, Judgement, Accepts, denial_of_live, denial_of_room, denial_of_template, resulting_attributes, IsJudgement}
use Rattle.directory_judge.specs.declared.copies.Judged.{Judged}
use Rattle.directory_judge.specs.declared.particulars.Particulars.{Particulars}
use Rattle.directory_judge.specs.declared.reason.Because.{Because}

abbrev pub particulars_named : Entry → Particulars
particulars_named e = record { url = e.url; kind = e.kind; scopes = e.scopes; attrs = e.attrs }

-- the update names this entry
pub record IsSettingOf (moment : ℕ) (s : Setting) (e : Entry) : Type 0 where
  pub pair : ◌≡◌ {A = Pair} (s.url, s.language) (pair_of e)
  pub attributes : s.attributes ≡ e.attrs
  pub deadline : moment + s.lifetime ≡ e.deadline

-- what founds the entry, or updates it
abbrev pub IsActOf : ℕ → Bool → Entry → Act → Type 0
IsActOf moment true e a = (p : Putting) × (a ≡ Put p) × (entry_of moment p ≡ e)
IsActOf moment false e a = (s : Setting) × (a ≡ Set s) × IsSettingOf moment s e

-- what the last steps come to, after the rules allowed its type in its scopes
abbrev pub judgement_of_named : Grounds → Bool → Entry → Act → Because → Judgement
judgement_of_named g fresh e a because =
    unwrap_or
    (option_or (denial_of_live g fresh (particulars_named e) (fin.get g.live (pair_of e)))
    (option_or (denial_of_template g e.kind (resulting_attributes fresh (particulars_named e) (fin.get g.live (pair_of e))))
    (denial_of_room g (pair_of e) (particulars_named e))))
    (Accepts (record { moment = g.now; act = a }) because)

abbrev pub IsJudgedNamed : Grounds → Bool → Entry → Because → Judged → Type 0
IsJudgedNamed g fresh e because j = (a : Act) → IsActOf g.now fresh e a → IsJudgement g.live j (judgement_of_named g fresh e a because)

-- the entry is what is live of the pair that is named, and has its type and its scopes
pub record IsUpdatable (live : Entries) (named old : Entry) : Type 0 where
  pub found : fin.get live (pair_of named) ≡ Some old
  pub pair : pair_of old ≡ pair_of named
  pub kind : old.kind ≡ named.kind
  pub scopes : old.scopes ≡ named.scopes
