-- Small runs, worked out byte by byte: a printer is registered, and then found; and a loop that lags behind a sweep.
use Rattle.std.proofs.Common.{◌≡◌, ℕ, ◌<◌, ◌≤◌, zero, suc, Bool, true, false, cond, List, [], ◌∷◌, codes, length, Some, None, refl, sym, ap, subst, ◌∙◌, arith, inr, ⊎_elim}
use Rattle.std.specs.Prelude.{is_none, nat_lt, Contains}
use Rattle.std.specs.Option.{option_or}
use Rattle.std.specs.List.{list_all, AllByRecursion}
use Rattle.std.specs.Fmt.{digits}
use Rattle.std.specs.Str.{chars, is_utf8}
use lib.Utf8.{encode}
use Rattle.std.specs.FinMap as fin
use Rattle.std.proofs.lemmas.Bool.Decides.{nat_tests}
use Rattle.std.proofs.lemmas.Option.{none-some, same_Some}
use Rattle.ucd_case.specs.CaseFolding.{full_folding}
use Rattle.ucd_case.specs.FullFoldingRows.{full_folding_rows}
use Rattle.ucd_table.specs.Rows.{value_in}
use Rattle.caseless.specs.Caseless.{default_case_fold}
use Rattle.slp_text.specs.Keys.{key_of}
use Rattle.slp_scopes.specs.Scopes.{scopes_of}
use Rattle.slp_text.specs.Words.{bytes_cmp}
use Rattle.slp_text.proofs.KeySets.{here, member_cases}
use Rattle.slp_tags.proofs.Matches.{second_of}
use Rattle.slp_tags.proofs.Searches.{first-of}
use Rattle.slp_headers.specs.Headers.{Heading}
use Rattle.slp_messages.specs.declared.code.TheConstants.{OK}
use Rattle.slp_messages.specs.declared.header.Header.{Header}
use Rattle.slp_messages.specs.declared.message.Message.TheVariants as message
use Rattle.slp_messages.specs.declared.message.Registration.{Registration}
use Rattle.slp_messages.specs.declared.message.UrlEntry.{UrlEntry}
use Rattle.slp_fields.specs.Reading.{byte_at, entry_at, long_at, no_block_at, no_index_at, number_at, string_at}
use Rattle.slp_bodies.specs.Bodies.{registration_at, service_request_at}
use Rattle.slp_wire.specs.Bodies.{body_at}
use Rattle.slp_wire.specs.Reading.{ends_at, reading, reading_after, reading_to_end}
use Rattle.slp_wire.specs.Spelling.{plain_bytes}
use Rattle.attr_list.specs.Lists.{attributes_of}
use Rattle.access_rules.specs.Deciding.{SiteRules, no_rules}
use Rattle.access_rules.specs.declared.rule.Action.{Action}
use Rattle.access_rules.specs.declared.rule.Action.TheVariants.{Register, Withdraw, See}
use Rattle.access_rules.specs.declared.rule.Rule.{Rule}
use Rattle.addresses.specs.declared.prefix.Prefix.{Prefix}
use Rattle.registry_core.specs.Entries.{Pair, pair_cmp, pair_eq, pair_of}
use Rattle.registry_core.specs.declared.entry.Entry.{Entry}
use Rattle.registry_core.proofs.Lists.{pair_eq-true}
use Rattle.directory_judge.specs.History.{Event, History, Put, Putting, Sweep as Swept}
use Rattle.directory_judge.specs.Judgements.{Accepts, Grounds, by_step}
use Rattle.directory_judge.specs.Meaning.{AreLive, Live, if_true, unless_withdrawn}
use Rattle.directory_judge.specs.declared.particulars.Particulars.{Particulars}
use Rattle.directory_judge.specs.declared.reason.Because.{Because}
use Rattle.directory_judge.specs.declared.reason.Decider.TheVariants as decider
use Rattle.directory_questions.specs.Answers.{Changes, Lists, IsAnswer, IsAnswerTo, is_change_of, sense_of}
use Rattle.directory_questions.specs.Bytes.{AreBytes}
use Rattle.directory_questions.specs.Calls.{Call, Opening, standpoint}
use Rattle.directory_questions.specs.Cuts.{services_with}
use Rattle.directory_questions.specs.Items.{Answers, AreItems, IsItem, IsOpenNow}
use Rattle.directory_questions.specs.Outcomes.{Outcome, acknowledgement_of, outcome, silence}
use Rattle.directory_questions.specs.Sights.{seen_entry}
use Rattle.directory_questions.specs.Verdicts.{grounds}
use Rattle.directory_questions.specs.declared.query.ServiceQuery.{ServiceQuery}
use Rattle.directory_runs.specs.Allowing.{RegistrationIsAllowed}
use Rattle.directory_runs.specs.Runs.{Entry as Asks, Publish, Sweep, IsRun}
use Rattle.directory_runs.specs.Served.{Visit}
use Rattle.directory_runs.proofs.Allowing.{allowed_is_accepted}
use Rattle.directory_runs.proofs.Merging.{with_loops}
use Rattle.directory_runs.proofs.Owners.{false-true}

-- ---- a printer is registered, and found

abbrev every : List Prefix
every = record { addr = 0; bits = 0 } ∷ []

abbrev all_may : List ℕ → Action → Rule
all_may name action = record { name = name; from = every; action = action; kind = None; scopes = None; allow = true; owner = false }

abbrev open_rules : SiteRules
open_rules = record {
  rules = all_may (codes "all-register") Register ∷ all_may (codes "all-withdraw") Withdraw
      ∷ all_may (codes "all-see") See ∷ [];
  hides = [];
}

abbrev open_site : Opening
open_site = record { rules = open_rules; site = record { scopes = codes "default" ∷ []; capacity = 16; templates = fin.empty; boot = 1 } }

abbrev called : List ℕ → Call
called bytes = record { own = 2130706433; moment = 0; asker = 167772161; bytes = bytes; limit = 1400 }

-- a SrvReg of the printer, for 300 seconds, with the flag FRESH (RFC 2608, section 8.3)
register : Call
register = called (2 ∷ 3 ∷ 0 ∷ 0 ∷ 78 ∷ 64 ∷ 0 ∷ 0 ∷ 0 ∷ 0 ∷ 0 ∷ 2 ∷ 0 ∷ 2 ∷ 101 ∷ 110 ∷ 0 ∷ 1 ∷ 44 ∷ 0 ∷ 23 ∷ 115 ∷ 101
    ∷ 114 ∷ 118 ∷ 105 ∷ 99 ∷ 101 ∷ 58 ∷ 112 ∷ 114 ∷ 105 ∷ 110 ∷ 116 ∷ 101 ∷ 114 ∷ 58 ∷ 108 ∷ 112 ∷ 114 ∷ 58 ∷ 47 ∷ 47
    ∷ 97 ∷ 0 ∷ 0 ∷ 19 ∷ 115 ∷ 101 ∷ 114 ∷ 118 ∷ 105 ∷ 99 ∷ 101 ∷ 58 ∷ 112 ∷ 114 ∷ 105 ∷ 110 ∷ 116 ∷ 101 ∷ 114 ∷ 58
    ∷ 108 ∷ 112 ∷ 114 ∷ 0 ∷ 7 ∷ 68 ∷ 69 ∷ 70 ∷ 65 ∷ 85 ∷ 76 ∷ 84 ∷ 0 ∷ 0 ∷ 0 ∷ [])

-- a SrvRqst for printers (RFC 2608, section 8.1)
ask : Call
ask = called (2 ∷ 1 ∷ 0 ∷ 0 ∷ 48 ∷ 0 ∷ 0 ∷ 0 ∷ 0 ∷ 0 ∷ 0 ∷ 1 ∷ 0 ∷ 2 ∷ 101 ∷ 110 ∷ 0 ∷ 0 ∷ 0 ∷ 15 ∷ 115 ∷ 101 ∷ 114 ∷ 118 ∷ 105 ∷ 99 ∷ 101 ∷ 58 ∷ 112 ∷ 114 ∷ 105 ∷ 110 ∷ 116 ∷ 101 ∷ 114 ∷ 0 ∷ 7 ∷ 68 ∷ 69 ∷ 70 ∷ 65 ∷ 85 ∷ 76 ∷ 84 ∷ 0 ∷ 0 ∷ 0 ∷ 0 ∷ [])

abbrev url : List ℕ
url = codes "service:printer:lpr://a"

abbrev en : List ℕ
en = codes "en"

abbrev lpr : List ℕ
lpr = codes "service:printer:lpr"

abbrev registering : Heading
registering = record { version = 2; function = 3; length = 78; flags = 16384; extension = 0; xid = 2; language = en }

abbrev fresh : Header
fresh = record { flags = record { overflow = false; fresh = true; multicast = false }; xid = 2; language = en }

abbrev printer : Registration
printer = record { entry = record { lifetime = 300; url = url }; kind = lpr; scopes = codes "DEFAULT"; attributes = [] }

abbrev asking : Heading
asking = record { version = 2; function = 1; length = 48; flags = 0; extension = 0; xid = 1; language = en }

abbrev query : ServiceQuery
query = record { kind = codes "service:printer"; scopes = codes "default" ∷ []; language = en; filter = None }

-- what the bytes ask for
registers : sense_of open_site.site register ≡ Changes registering (message.Registration fresh printer)
unfolding register key_of scopes_of default_case_fold chars full_folding value_in full_folding_rows encode reading reading_after reading_to_end ends_at body_at service_request_at registration_at entry_at byte_at number_at string_at no_block_at long_at no_index_at is_utf8 digits
registers = refl

asks : sense_of open_site.site ask ≡ Lists asking query
unfolding ask key_of scopes_of default_case_fold chars full_folding value_in full_folding_rows encode reading reading_after reading_to_end ends_at body_at service_request_at registration_at entry_at byte_at number_at string_at no_block_at long_at no_index_at is_utf8 digits
asks = refl

-- ---- the registration is accepted

abbrev named : Particulars
named = record { url = url; kind = lpr; scopes = codes "default" ∷ []; attrs = attributes_of [] }

abbrev put : Event
put = record {
  moment = 0;
  act = Put (record {
    asker = 167772161;
    url = url;
    language = en;
    kind = lpr;
    scopes = codes "default" ∷ [];
    attributes = attributes_of [];
    lifetime = 300;
  });
}

nothing_lives : AreLive [] 0 fin.empty
nothing_lives q e = ((λ found. absurd (none-some e (sym (fin.get-empty pair_cmp q) ∙ found))), (λ is. absurd (none-some is.1.stands.by is.1.stands.founded)))

abbrev first_grounds : Grounds
first_grounds = grounds (standpoint open_site [] 0 167772161) fin.empty

may_register : RegistrationIsAllowed first_grounds fresh printer put
unfolding key_of scopes_of default_case_fold chars full_folding value_in full_folding_rows encode reading reading_after reading_to_end ends_at body_at service_request_at registration_at entry_at byte_at number_at string_at no_block_at long_at no_index_at is_utf8 digits
may_register = record {
  named = named;
  reads = refl;
  in_scope = omega arith;
  ruled = λ s has. refl;
  follows = λ e found. absurd (none-some e (sym (fin.get-empty pair_cmp (url, en)) ∙ found));
  conforms = λ ds found. absurd (none-some ds (sym (fin.get-empty bytes_cmp (codes "printer")) ∙ found));
  room = λ none. subst (λ n. n < 16) (sym (fin.len-empty pair_cmp Entry)) (omega arith);
  is = refl;
}

accepted : (because : Because) × IsAnswer open_site [] register (acknowledgement_of registering (Accepts put because)) (Some put)
unfolding IsAnswer register
accepted =
    let k = allowed_is_accepted first_grounds (message.Registration fresh printer) put may_register in (
      k.0,
      subst (λ s. IsAnswerTo open_site [] register s (acknowledgement_of registering (Accepts put k.0)) (Some put)) (sym registers)
          (Accepts put k.0, record { live = fin.empty; are_live = nothing_lives; is = sym k.1 }, refl, refl),
    )

acknowledged : Outcome
acknowledged = acknowledgement_of registering (Accepts put accepted.0)

acknowledged_bytes : acknowledged.reply ≡ 2 ∷ 5 ∷ 0 ∷ 0 ∷ 18 ∷ 0 ∷ 0 ∷ 0 ∷ 0 ∷ 0 ∷ 0 ∷ 2 ∷ 0 ∷ 2 ∷ 101 ∷ 110 ∷ 0 ∷ 0 ∷ []
unfolding acknowledged
acknowledged_bytes = refl

-- ---- it is found

abbrev stored : Entry
stored = record { url = url; language = en; kind = lpr; scopes = codes "default" ∷ []; attrs = attributes_of []; deadline = 300; owner = 167772161 }

abbrev item : UrlEntry
item = record { lifetime = 300; url = url }

abbrev IsFound : Entry → Type 0
IsFound = Answers (IsOpenNow (standpoint open_site (put ∷ []) 0 167772161) query.scopes) query

abbrev seen : Entry
seen = seen_entry open_rules 167772161 (codes "default" ∷ []) stored

it_lives : Live (put ∷ []) 0 stored
it_lives = record { stands = record { by = _; founded = refl; owner = refl; kind = refl; scopes = refl; attributes = λ tag. refl; deadline = refl }; lasts = omega arith }

is_found : IsFound seen
is_found = record {
  matched = record {
    opened = record {
      entry = stored;
      live = it_lives;
      open_to = record { scope = codes "default"; stored = here (codes "default") []; requested = here (codes "default") []; supported = here (codes "default") []; allowed = refl };
      seen = refl;
    };
    about = refl;
  };
  wanted = refl;
}

-- whatever lives is of this URL, and lasts no longer
abbrev the_put : Putting
the_put = record { asker = 167772161; url = url; language = en; kind = lpr; scopes = codes "default" ∷ []; attributes = attributes_of []; lifetime = 300 }

is_founded : (q : Pair) (by : Putting) (b : Bool) → unless_withdrawn (cond (is_none (if_true b (Some the_put))) (put ∷ []) []) (option_or (if_true b (Some the_put)) None) ≡ Some by → b ≡ true
is_founded q by true is = refl
is_founded q by false is = absurd (none-some by is)

lasts_so : (d : ℕ) (b : Bool) → option_or (if_true b (Some 300)) None ≡ Some d → d ≡ 300
lasts_so d true is = sym (same_Some 300 d is)
lasts_so d false is = absurd (none-some d is)

only : (x : Entry) → Live (put ∷ []) 0 x → (x.url ≡ url) × (x.deadline ≡ 300)
only x live =
    let same = is_founded (pair_of x) live.stands.by (pair_eq (url, en) (pair_of x)) live.stands.founded in (
      ap (λ (p : Pair). p.0) (sym (pair_eq-true (url, en) (pair_of x) same)),
      lasts_so x.deadline (pair_eq (url, en) (pair_of x)) live.stands.deadline,
    )

the_item : IsItem IsFound 0 item
the_item = record {
  from = seen;
  answers = is_found;
  url = refl;
  lifetime = refl;
  greatest = λ e is same.
      let o = is.matched.opened in
      let last = (only o.entry o.live).1 in
      let own : e.deadline ≡ o.entry.deadline = ap (λ (y : Entry). y.deadline) o.seen in
      omega (arith, last, own);
}

the_items : AreItems IsFound 0 (item ∷ [])
the_items = record {
  ordered = (tt, tt);
  each = λ i has. ⊎_elim (λ (same : item ≡ i). subst (λ (x : UrlEntry). IsItem IsFound 0 x) same the_item) (λ none. absurd (omega (arith, none.1))) (member_cases item i [] has);
  all = λ e is.
      let o = is.matched.opened in
      let own : url ≡ e.url = sym ((ap (λ (y : Entry). y.url) o.seen) ∙ (only o.entry o.live).0) in
      subst (λ (u : List ℕ). Contains (url ∷ []) u) own (here url []);
}

listed : Outcome
listed = outcome (plain_bytes (services_with asking (item ∷ []) 1)) OK (by_step decider.Nobody (Some query.kind))

listed_bytes : plain_bytes (services_with asking (item ∷ []) 1) ≡ 2 ∷ 2 ∷ 0 ∷ 0 ∷ 49 ∷ 0 ∷ 0 ∷ 0 ∷ 0 ∷ 0 ∷ 0 ∷ 1 ∷ 0 ∷ 2 ∷ 101 ∷ 110 ∷ 0 ∷ 0 ∷ 0 ∷ 1 ∷ 0 ∷ 1 ∷ 44 ∷ 0 ∷ 23 ∷ 115 ∷ 101 ∷ 114 ∷ 118 ∷ 105 ∷ 99 ∷ 101 ∷ 58 ∷ 112 ∷ 114 ∷ 105 ∷ 110 ∷ 116 ∷ 101 ∷ 114 ∷ 58 ∷ 108 ∷ 112 ∷ 114 ∷ 58 ∷ 47 ∷ 47 ∷ 97 ∷ 0 ∷ []
listed_bytes = refl

is_listed : IsAnswer open_site (put ∷ []) ask listed None
unfolding IsAnswer ask listed
is_listed = subst (λ s. IsAnswerTo open_site (put ∷ []) ask s listed None) (sym asks) (
  inr (
    (λ foreign. false-true false refl foreign.filtered),
    record {
      items = item ∷ [];
      are = the_items;
      reply = record {
        whole = plain_bytes (services_with asking (item ∷ []) 1);
        cut = record {
          count = 1;
          within = omega arith;
          fits = subst (λ (bytes : List ℕ). length bytes ≤ 1400) (sym listed_bytes) (omega arith);
          longest = λ other within fits. within;
          spelled = refl;
        };
        sent = refl;
      };
    },
  ),
  refl,
)

-- ---- so this is a run

all_bytes : (bs : List ℕ) → AllByRecursion (λ b. b < 256) bs → AreBytes bs
all_bytes [] are i = omega arith
all_bytes (b ∷ bs) are zero = are.0
all_bytes (b ∷ bs) are (suc i) = all_bytes bs are.1 i

are_bytes : (bs : List ℕ) → list_all (λ b. nat_lt b 256) bs ≡ true → AllByRecursion (λ b. b < 256) bs
are_bytes [] are = tt
are_bytes (b ∷ bs) are = (less b (first-of (nat_lt b 256) (list_all (λ x. nat_lt x 256) bs) are), are_bytes bs (second_of (nat_lt b 256) (list_all (λ x. nat_lt x 256) bs) are))
  where
    less : (n : ℕ) → nat_lt n 256 ≡ true → n < 256
    less n is = grind (arith, nat_tests)

registered_and_found : IsRun open_site (Asks 1 ask listed ∷ Publish register acknowledged (Some put) ∷ [])
unfolding register ask acknowledged is_change_of
registered_and_found = ((all_bytes ask.bytes (are_bytes ask.bytes refl), refl, is_listed), ((all_bytes register.bytes (are_bytes register.bytes refl), refl, accepted.1), tt))

found_bytes : listed.reply ≡ 2 ∷ 2 ∷ 0 ∷ 0 ∷ 49 ∷ 0 ∷ 0 ∷ 0 ∷ 0 ∷ 0 ∷ 0 ∷ 1 ∷ 0 ∷ 2 ∷ 101 ∷ 110 ∷ 0 ∷ 0 ∷ 0 ∷ 1 ∷ 0 ∷ 1 ∷ 44 ∷ 0 ∷ 23 ∷ 115 ∷ 101 ∷ 114 ∷ 118 ∷ 105 ∷ 99 ∷ 101 ∷ 58 ∷ 112 ∷ 114 ∷ 105 ∷ 110 ∷ 116 ∷ 101 ∷ 114 ∷ 58 ∷ 108 ∷ 112 ∷ 114 ∷ 58 ∷ 47 ∷ 47 ∷ 97 ∷ 0 ∷ []
unfolding listed
found_bytes = refl

-- ---- a loop that lags behind a sweep

an_opening : Opening
an_opening = record { rules = no_rules; site = record { scopes = []; capacity = 0; templates = fin.empty; boot = 0 } }

first : History
first = record { moment = 5; act = Swept } ∷ []

second : History
second = record { moment = 7; act = Swept } ∷ record { moment = 5; act = Swept } ∷ []

-- no bytes, which are answered by silence
nothing_sent : ℕ → Call
nothing_sent m = record { own = 1; moment = m; asker = 2; bytes = []; limit = 1400 }

answered : History → ℕ → Visit
answered h m = record { at = h; told = Some (nothing_sent m, silence) }

is_silence : (h : History) (m : ℕ) → IsAnswer an_opening h (nothing_sent m) silence None
unfolding IsAnswer an_opening nothing_sent
is_silence h m = (refl, refl)

asks_nothing : (m : ℕ) → is_change_of (nothing_sent m).bytes ≡ false
unfolding is_change_of nothing_sent
asks_nothing m = refl

abbrev loops : ℕ → List Visit
loops zero = answered second 8 ∷ answered first 6 ∷ []
loops (suc n) = answered first 9 ∷ answered [] 4 ∷ []

-- The second loop answers at 9 what it does not see yet, and the run has it before the sweep at 7.
row-lagging : with_loops 2 loops (Sweep 7 ∷ Sweep 5 ∷ [])
    ≡ Asks 0 (nothing_sent 8) silence ∷ Sweep 7 ∷ Asks 1 (nothing_sent 9) silence ∷ Asks 0 (nothing_sent 6) silence ∷ Sweep 5 ∷ Asks 1 (nothing_sent 4) silence ∷ []
unfolding first second answered
row-lagging = refl
