-- What a read does to a run.
use Rattle.std.proofs.Common.{◌≡◌, ℕ, List, [], ◌∷◌, ◌++◌, length, take, Option, Some, None, Result, Ok, Err, refl, sym, ap, subst, ◌∙◌, inl, inr, arith, length-append}
use Rattle.std.specs.Prelude.{◌≤◌, ◌⊎◌}
use Rattle.std.specs.Io.KnownBytes.{Appends, Keeps, Consumes, IsAtEnd}
use Rattle.std.specs.List.{flat_map}
use Rattle.std.proofs.lemmas.List.{append-nil}
use Rattle.directory_state.proofs.Folds.{AreLive-nil}
use Rattle.replay_program.specs.Sessions.{Holds}
use Rattle.slp_script.specs.Lines.{Line, line_bytes, lines_of}
use Rattle.replay_program.specs.Opening.{opening_session}
use Rattle.replay_program.specs.Worlds.{RunsUpTo, RunsPart, RunsWhole, IsOutput, IsUnfinished, opening_world}
use Rattle.replay_program.specs.Turns.{IsOpen}
use Rattle.replay_program.specs.Reads.{StandsAfter, FeedFails, Ends}
use Rattle.replay_program.specs.Gives.{FaultGives, Gives, KnownFault, KnownGives, RunsOn, longest_read}
use Rattle.replay_program.specs.declared.progress.OpenBlock.{OpenBlock}
use Rattle.replay_program.specs.declared.progress.Progress.{Progress}
use Rattle.replay_program.specs.declared.fault.RunFault.{RunFault}
use Rattle.replay_program.specs.declared.fault.RunFault.TheVariants as fault
use Rattle.replay_program.specs.declared.fault.RunFault.TheVariants.{Read, Write, NoMemory}
use Rattle.replay_program.proofs.Transfers.{Keeps-same, Appends-none, Appends-append, Consumes-none, Consumes-append}

-- nothing happened in the setup with which a run begins
pub Holds-opening : Holds opening_world opening_session
Holds-opening = record {
  agent = record {
    legal = tt;
    fold = record { entries = AreLive-nil; ruled = refl; placed = refl; clocks = refl };
    listen = refl;
    loop = refl;
    moment = refl;
    asker = refl;
  };
  stream = refl;
  limit = refl;
  late = refl;
}

pub StandsAfter-begin : (p : Progress) → p.number ≡ 0 → p.block ≡ None → p.session ≡ opening_session → StandsAfter [] [] [] p
StandsAfter-begin p n b s = record {
  lines = [];
  text = refl;
  each = tt;
  unended = tt;
  short = omega arith;
  stands = record {
    before = [];
    unended = [];
    commands = [];
    all = refl;
    reads = refl;
    world = opening_world;
    prints = (refl, refl);
    holds = rw s Holds-opening;
    is_open = subst (λ (v : Option OpenBlock). IsOpen [] 0 v) (sym b) refl;
    number = n;
  };
}

no_lines : (ls : List Line) (line : List ℕ) → [] ≡ flat_map line_bytes ls ++ line → length ls ≡ 0
no_lines [] line e = refl
no_lines (l ∷ ls) line e = absurd (omega (arith, simp length-append at (ap length e)))

-- where nothing was read there was no line
pub StandsAfter-new : (p : Progress) → StandsAfter [] [] [] p → p.number ≡ 0
StandsAfter-new p s = s.stands.number ∙ no_lines s.lines [] s.text

-- memory ran out after these reads
runs_on : (earlier last said rest : List ℕ) → length last ≤ longest_read → RunsWhole earlier said → ((more : List ℕ) → RunsPart ((earlier ++ last) ++ more) (said ++ rest)) → RunsOn (earlier ++ last) (said ++ rest)
runs_on earlier last said rest short whole part = record {
  earlier = earlier;
  last = last;
  all_read = refl;
  one_read = short;
  said = said;
  rest = rest;
  all_said = refl;
  whole = whole;
  part = part;
}

-- a run that never began
pub Gives-lacks : (r w : Option (List ℕ)) → Gives r r w w (Err NoMemory)
Gives-lacks r w =
    let out : IsOutput [] [] = (opening_world, (refl, refl)) in
    ([], [], Consumes-none r r (Keeps-same r), Appends-none w, runs_on [] [] [] [] (omega arith) ([], [], [], [], refl, refl, inl refl, tt, out) (λ more. ([], [], lines_of more, refl, refl, out)))

pub Consumes-keeps : (a b c : Option (List ℕ)) (xs : List ℕ) → Consumes a b xs → Keeps b c → Consumes a c xs
Consumes-keeps None b c xs h k = tt
Consumes-keeps (Some s) None c xs h k = absurd h
Consumes-keeps (Some s) (Some t) None xs h k = absurd k
Consumes-keeps (Some s) (Some t) (Some u) xs h k = rw k h

pub Consumes-end : (r m n : Option (List ℕ)) (read buf : List ℕ) (k : ℕ) → Consumes r m read → Consumes m n (take k buf) → k ≡ 0 → Consumes r n read
Consumes-end r m n read buf k h t e =
    let none : Consumes m n [] = rw e at t in
    subst (λ (v : List ℕ). Consumes r n v) (append-nil read) (Consumes-append r m n read [] h none)

unfinished : (b : Option OpenBlock) (ls : List Line) (k : ℕ) → IsOpen ls k b → IsUnfinished ls
unfinished None ls k h = inl h
unfinished (Some b) ls k h = inr (b.block, h.0, h.1, h.2)

StandsAfter-whole : (read out line : List ℕ) (p : Progress) → StandsAfter read out line p → RunsWhole read out
StandsAfter-whole read out line p s = (
  s.stands.commands,
  s.stands.before,
  s.stands.unended,
  line,
  rw (← s.stands.all) s.text,
  s.stands.reads,
  unfinished p.block s.stands.unended (length s.stands.before) s.stands.is_open,
  s.unended,
  (s.stands.world, s.stands.prints),
)

pub Gives-ends : (r n w v u : Option (List ℕ)) (read out line : List ℕ) (p : Progress) (result : Result (Unit {0}) RunFault) → Consumes r n read → IsAtEnd n → Appends w v out → StandsAfter read out line p → Ends v u read out result → Gives r n w u result
Gives-ends r n w v u read out line p (Ok x) c e a s h = (read, out ++ h.0, c, e, Appends-append w v u out h.0 a h.1, h.2)
Gives-ends r n w v u read out line p (Err Read) c e a s h = absurd h
Gives-ends r n w v u read out line p (Err Write) c e a s h = tt
Gives-ends r n w v u read out line p (Err NoMemory) c e a s h =
    let on = runs_on read [] out h.0 (omega arith) (StandsAfter-whole read out line p s) (rw (append-nil read) h.2) in
    (read, out ++ h.0, c, Appends-append w v u out h.0 a h.1, rw (append-nil read) at on)
Gives-ends r n w v u read out line p (Err (fault.Line k)) c e a s h = (read, out ++ h.0, c, Appends-append w v u out h.0 a h.1, inr (e, h.2))

pub Gives-failed : (r n w v u : Option (List ℕ)) (read last out line : List ℕ) (p : Progress) (e : RunFault) → Consumes r n (read ++ last) → length last ≤ longest_read → Appends w v out → StandsAfter read out line p → FeedFails v u (read ++ last) out e → FaultGives r n w u e
Gives-failed r n w v u read last out line p Read c short a s h = absurd h
Gives-failed r n w v u read last out line p Write c short a s h = tt
Gives-failed r n w v u read last out line p NoMemory c short a s h =
    (read ++ last, out ++ h.0, c, Appends-append w v u out h.0 a h.1, runs_on read last out h.0 short (StandsAfter-whole read out line p s) h.2)
Gives-failed r n w v u read last out line p (fault.Line k) c short a s h = (read ++ last, out ++ h.0, c, Appends-append w v u out h.0 a h.1, inl h.2)

pub Gives-read : (r n w u : Option (List ℕ)) (read out line : List ℕ) (p : Progress) → Consumes r n read → Appends w u out → StandsAfter read out line p → FaultGives r n w u Read
Gives-read r n w u read out line p c a s = (read, out, c, a, StandsAfter-whole read out line p s)

-- what was read of a known script, and what is left of it
Consumes-known : (script read : List ℕ) (n : Option (List ℕ)) → Consumes (Some script) n read → (more : List ℕ) × (script ≡ read ++ more) × (IsAtEnd n → more ≡ [])
Consumes-known script read None h = absurd h
Consumes-known script read (Some more) h = (more, h, λ e. e)

known-line : (script : List ℕ) (n : Option (List ℕ)) (read out : List ℕ) (k : ℕ) → Consumes (Some script) n read → ((more : List ℕ) → RunsUpTo (read ++ more) k out) ⊎ (IsAtEnd n × RunsUpTo read k out) → RunsUpTo script k out
known-line script n read out k c (inl h) = let t = Consumes-known script read n c in rw t.1 (h t.0)
known-line script n read out k c (inr h) =
    let t = Consumes-known script read n c in
    let all : script ≡ read = t.1 ∙ (ap (λ v. read ++ v) (t.2 h.0) ∙ append-nil read) in
    rw all h.1

known-fault : (script : List ℕ) (n w u : Option (List ℕ)) (e : RunFault) → FaultGives (Some script) n w u e → KnownFault script w u e
known-fault script n w u Read h = tt
known-fault script n w u Write h = tt
known-fault script n w u NoMemory h =
    let t = Consumes-known script h.0 n h.2 in
    (h.1, h.3, rw t.1 (h.4.part t.0))
known-fault script n w u (fault.Line k) h = (h.1, h.3, known-line script n h.0 h.1 k h.2 h.4)

pub Gives-known : (r n w u : Option (List ℕ)) (result : Result (Unit {0}) RunFault) → Gives r n w u result → KnownGives r w u result
Gives-known None n w u result h = tt
Gives-known (Some script) n w u (Err e) h = known-fault script n w u e h
Gives-known (Some script) n w u (Ok x) h =
    let k = Consumes-known script h.0 n h.2 in
    let all : script ≡ h.0 = k.1 ∙ (ap (λ v. h.0 ++ v) (k.2 h.3) ∙ append-nil h.0) in
    (h.1, h.4, rw all h.5)

pub KnownGives-lacks : (r w : Option (List ℕ)) → KnownGives r w w (Err NoMemory)
KnownGives-lacks r w = Gives-known r r w w (Err NoMemory) (Gives-lacks r w)
