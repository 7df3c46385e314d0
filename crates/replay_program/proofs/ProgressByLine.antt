-- What one more line does to where a run stands.
use Rattle.std.proofs.Common.{◌≡◌, ℕ, ◌+◌, ◌≤◌, List, [], ◌∷◌, ◌++◌, length, Option, Some, None, Result, Err, refl, sym, ap, subst, ◌∙◌, inl, inr, arith, append_assoc, length-append}
use Rattle.std.specs.Prelude.{IsUtf8, string_bytes, ⊤}
use Rattle.std.specs.Io.KnownBytes.{Keeps}
use Rattle.std.specs.Option.{option_map, option_map_or}
use Rattle.std.proofs.lemmas.List.{append-nil}
use Rattle.access_rules.specs.Deciding.{SiteRules}
use Rattle.rule_files.specs.RuleFiles.{rules_in_text}
use Rattle.rule_files.specs.declared.fault.RuleFault.{RuleFault}
use Rattle.rule_files.specs.declared.fault.RuleFault.TheVariants as rule_fault
use Rattle.site_config.specs.Configurations.{config_of}
use Rattle.site_config.specs.declared.config.Config.{Config}
use Rattle.site_config.specs.declared.fault.ConfigFault.{ConfigFault}
use Rattle.site_config.specs.declared.fault.ConfigFault.TheVariants.{Range}
use Rattle.slp_script.specs.Commands.{Command, Single, Text, Reads, word_of, block_end, longest_line, block_start, IsBodyLine, AtLine, AtBody, AtEnd, StopsAt}
use Rattle.replay_program.specs.Sessions.{Holds}
use Rattle.slp_script.specs.Lines.{Line}
use Rattle.replay_program.specs.Worlds.{World, Adds, Does, Prints, IsFirstFault, IsOutput, Configures, Reloads, opening_world, templates_with}
use Rattle.replay_program.specs.Turns.{IsFaultOutside, IsOpen, Stands, Turns, TurnsTo, TurnFailsBy, Begins, Ends, Lengthens, block_text, block_text_with}
use Rattle.replay_program.specs.declared.fault.RunFault.{RunFault}
use Rattle.replay_program.specs.declared.fault.RunFault.TheVariants as fault
use Rattle.replay_program.specs.declared.fault.RunFault.TheVariants.{Read, Write, NoMemory}
use Rattle.replay_program.specs.declared.progress.OpenBlock.{OpenBlock}
use Rattle.replay_program.specs.declared.progress.Progress.{Progress}
use Rattle.replay_program.specs.declared.session.Session.{Session}
use Rattle.replay_program.proofs.BlockTexts.{block_text_with-kept, kept-config, kept-rules, kept-template}
use Rattle.slp_script.specs.declared.command.Block.{Block}
use Rattle.slp_script.specs.declared.command.Block.TheVariants as block
use Rattle.template_files.specs.Reading.{template_in}
use Rattle.srv_template.specs.Templates.{Template}
use Rattle.srv_template.specs.declared.fault.ParseFault.{ParseFault}
use Rattle.srv_template.specs.declared.fault.ParseFault.TheVariants as template
use Rattle.slp_script.proofs.Words.{word-of_block}
use Rattle.slp_script.proofs.Fronts.{Reads-snoc, All-append}

pub Prints-snoc : (w : World) (cs : List Command) (out : List ℕ) (mid : World) (c : Command) (now : List ℕ) (v : World) → Prints w cs out mid → Does mid c now v → Prints w (cs ++ c ∷ []) (out ++ now) v
Prints-snoc w [] out mid c now v h d =
    (v, now, [], rw (h.0) (sym (append-nil now)), subst (λ (u : World). Does u c now v) h.1 d, (refl, refl))
Prints-snoc w (b ∷ cs) out mid c now v h d =
    (h.0, h.1, h.2 ++ now, rw (h.3) (append_assoc h.1 h.2 now), h.4, Prints-snoc h.0 cs h.2 mid c now v h.5 d)

Prints-same : (cs : List Command) (out now : List ℕ) (w : World) → Prints opening_world cs out w → now ≡ [] → Prints opening_world cs (out ++ now) w
Prints-same cs out now w h none = rw (none, append-nil out) h

-- the end of a block does what the whole block does
Does-block : (block : Block) (body : List Line) (w : World) (kept : Option (List ℕ)) (now : List ℕ) (v : World) → kept ≡ block_text body → Ends block w kept now v → Does w (Text block body) now v
Does-block block.Config body w kept now v is did =
    subst (λ (r : Result Config ConfigFault). Configures w.late w r now v) (ap (λ (o : Option (List ℕ)). option_map_or config_of o (Err Range)) is ∙ kept-config body) did
Does-block block.Template body w kept now v is did =
    subst (λ (r : Result Template ParseFault). Adds w.late w (templates_with w r) now v) (ap (λ (o : Option (List ℕ)). option_map_or template_in o (Err (template.Line 1))) is ∙ kept-template body) did
Does-block block.Rules body w kept now v is did =
    subst (λ (r : Result SiteRules RuleFault). Reloads w r now v) (ap (λ (o : Option (List ℕ)). option_map_or rules_in_text o (Err (rule_fault.Shape 0))) is ∙ kept-rules body) did

IsOpen-begins : (b : Option OpenBlock) (block : Block) (l : Line) (k number : ℕ) → l ≡ word_of block → number ≡ k + 1 → Begins block number b → IsOpen (l ∷ []) k b
IsOpen-begins None block l k number is n h = absurd h
IsOpen-begins (Some b) block l k number is n h = ([], ap (λ (v : Line). v ∷ []) (is ∙ ap word_of (sym h.0)), tt, h.1 ∙ n, h.2)

IsOpen-more : (b : OpenBlock) (c : Option OpenBlock) (ls : List Line) (l : Line) (k : ℕ) → IsOpen ls k (Some b) → IsBodyLine l → Lengthens b l c → IsOpen (ls ++ l ∷ []) k c
IsOpen-more b None ls l k h is e = absurd e
IsOpen-more b (Some c) ls l k h is e =
    (h.0 ++ l ∷ [], rw (h.1, e.0) refl, All-append IsBodyLine h.0 (l ∷ []) h.2 (is, tt), e.1 ∙ h.3, e.2 ∙ (ap (λ (o : Option (List ℕ)). block_text_with o l) h.4 ∙ block_text_with-kept h.0 l))

Stands-by : (b : Option OpenBlock) (ls : List Line) (out : List ℕ) (p : Progress) (l now : List ℕ) (q : Progress) (before unended : List Line) (cs : List Command) (world : World) → ls ≡ before ++ unended → Reads before cs → Prints opening_world cs out world → Holds world p.session → IsOpen unended (length before) b → p.number ≡ length ls → q.number ≡ p.number + 1 → Turns b p l now q → Stands (ls ++ l ∷ []) (out ++ now) q
Stands-by None ls out p l now q before unended cs world all reads prints holds is_open number more (inl t) =
    let did = t.2 world holds in
    record {
      before = before ++ l ∷ [];
      unended = [];
      commands = cs ++ Single t.0 ∷ [];
      all = rw (all, is_open, append-nil before, append-nil (before ++ l ∷ [])) refl;
      reads = Reads-snoc before cs (l ∷ []) (Single t.0) reads (l, refl, t.1);
      world = did.0;
      prints = Prints-snoc opening_world cs out world (Single t.0) now did.0 prints did.1;
      holds = did.2;
      is_open = subst (λ (v : Option OpenBlock). IsOpen [] (length (before ++ l ∷ [])) v) (sym t.3) refl;
      number = omega (arith, length-append ls (l ∷ []));
    }
Stands-by None ls out p l now q before unended cs world all reads prints holds is_open number more (inr t) =
    let same : length before ≡ length ls = rw (all, is_open, append-nil before) refl in
    record {
      before = before;
      unended = l ∷ [];
      commands = cs;
      all = rw (all, is_open, append-nil before) refl;
      reads = reads;
      world = world;
      prints = Prints-same cs out now world prints t.2;
      holds = rw t.3 holds;
      is_open = IsOpen-begins q.block t.0 l (length before) (p.number + 1) (word-of_block l t.0 t.1) (omega arith) t.4;
      number = omega (arith, length-append ls (l ∷ []));
    }
Stands-by (Some b) ls out p l now q before unended cs world all reads prints holds is_open number more (inl t) =
    let body = is_open.0 in
    let did = t.1 world holds in
    record {
      before = before ++ (block_start b.block body ++ block_end ∷ []);
      unended = [];
      commands = cs ++ Text b.block body ∷ [];
      all = rw (all, is_open.1, t.0, append-nil, append_assoc) refl;
      reads = Reads-snoc before cs (block_start b.block body ++ block_end ∷ []) (Text b.block body) reads (refl, is_open.2);
      world = did.0;
      prints = Prints-snoc opening_world cs out world (Text b.block body) now did.0 prints (Does-block b.block body world (option_map string_bytes b.text) now did.0 is_open.4 did.1);
      holds = did.2;
      is_open = subst (λ (v : Option OpenBlock). IsOpen [] (length (before ++ (block_start b.block body ++ block_end ∷ []))) v) (sym t.2) refl;
      number = omega (arith, length-append ls (l ∷ []));
    }
Stands-by (Some b) ls out p l now q before unended cs world all reads prints holds is_open number more (inr t) =
    record {
      before = before;
      unended = unended ++ l ∷ [];
      commands = cs;
      all = rw (all, append_assoc) refl;
      reads = reads;
      world = world;
      prints = Prints-same cs out now world prints t.1;
      holds = rw t.2 holds;
      is_open = IsOpen-more b q.block unended l (length before) is_open t.0 t.3;
      number = omega (arith, length-append ls (l ∷ []));
    }

pub Stands-turn : (ls : List Line) (out : List ℕ) (p : Progress) (l now : List ℕ) (q : Progress) → Stands ls out p → TurnsTo p l now q → Stands (ls ++ l ∷ []) (out ++ now) q
Stands-turn ls out p l now q s t =
    Stands-by p.block ls out p l now q s.before s.unended s.commands s.world s.all s.reads s.prints s.holds s.is_open s.number t.number t.turns

-- a line at fault, by the block that is open
abbrev pub IsAtFault : Option OpenBlock → Session → Line → Type 0
IsAtFault None s l = IsFaultOutside s l
IsAtFault (Some b) s l = ¬ ((length l ≤ longest_line) × IsUtf8 l)

-- what a line that was not carried out leaves of what was written, by the fault
abbrev pub FailsAs : Option OpenBlock → Session → ℕ → Line → Option (List ℕ) → Option (List ℕ) → RunFault → Type 0
FailsAs b s number l old new (fault.Line n) = (n ≡ number) × IsAtFault b s l × Keeps old new
FailsAs b s number l old new NoMemory = Keeps old new
FailsAs b s number l old new Write = ⊤
FailsAs b s number l old new Read = ⊥

pub fails_as : (b : Option OpenBlock) (p : Progress) (l : Line) (old new : Option (List ℕ)) (e : RunFault) → TurnFailsBy b p l old new e → FailsAs b p.session (p.number + 1) l old new e
fails_as None p l old new (fault.Line n) f = f
fails_as None p l old new NoMemory f = f
fails_as None p l old new Write f = tt
fails_as None p l old new Read f = f
fails_as (Some b) p l old new (fault.Line n) f = f
fails_as (Some b) p l old new NoMemory f = f
fails_as (Some b) p l old new Write f = tt
fails_as (Some b) p l old new Read f = f

IsFirstFault-by : (b : Option OpenBlock) (ls : List Line) (p : Progress) (l : List ℕ) (before unended : List Line) (cs : List Command) (world : World) (more : List Line) → ls ≡ before ++ unended → Reads before cs → Holds world p.session → IsOpen unended (length before) b → p.number ≡ length ls → IsAtFault b p.session l → IsFirstFault (ls ++ l ∷ more) cs world (p.number + 1)
IsFirstFault-by None ls p l before unended cs world more all reads holds is_open number (inl fault) =
    let same : length before ≡ length ls = rw (all, is_open, append-nil before) refl in
    inl (record {
      before = before;
      stuck = l ∷ more;
      all = rw (all, is_open, append-nil before) refl;
      reads = reads;
      line = 1;
      is_stuck = AtLine l more refl fault.0 fault.1 refl;
      number = omega arith;
    })
IsFirstFault-by None ls p l before unended cs world more all reads holds is_open number (inr fault) =
    let same : length before ≡ length ls = rw (all, is_open, append-nil before) refl in
    let lacks = fault.2 in
    inr (record {
      before = before;
      line = l;
      rest = more;
      all = rw (all, is_open, append-nil before) refl;
      reads = reads;
      loop = lacks.0;
      names = fault.1 ∙ ap Some lacks.1;
      outside = lacks.2 world holds;
      number = omega arith;
    })
IsFirstFault-by (Some b) ls p l before unended cs world more all reads holds is_open number fault =
    let body = is_open.0 in
    let size : length ls ≡ length before + (length body + 1) = rw (all, length-append, is_open.1) (omega arith) in
    inl (record {
      before = before;
      stuck = block_start b.block body ++ l ∷ more;
      all = rw (all, is_open.1, append_assoc) refl;
      reads = reads;
      line = length body + 2;
      is_stuck = AtBody b.block body l more refl is_open.2 fault refl;
      number = omega arith;
    })

-- a line at fault ends the run, whatever lines follow
pub Stands-fault : (ls : List Line) (out : List ℕ) (p : Progress) (l : List ℕ) (more : List Line) → Stands ls out p → IsAtFault p.block p.session l → (cs : List Command) × (final : World) × Prints opening_world cs out final × IsFirstFault (ls ++ l ∷ more) cs final (p.number + 1)
Stands-fault ls out p l more s f =
    (s.commands, s.world, s.prints, IsFirstFault-by p.block ls p l s.before s.unended s.commands s.world more s.all s.reads s.holds s.is_open s.number f)

ends_within : (o : Option OpenBlock) (b : OpenBlock) (ls before unended : List Line) (cs : List Command) → o ≡ Some b → ls ≡ before ++ unended → Reads before cs → IsOpen unended (length before) o → StopsAt ls cs b.begun
ends_within None b ls before unended cs e all reads is_open = absurd cc
ends_within (Some c) b ls before unended cs e all reads is_open =
    let same : b ≡ c = cc in
    record {
      before = before;
      stuck = block_start c.block is_open.0;
      all = rw (all, is_open.1) refl;
      reads = reads;
      line = 1;
      is_stuck = AtEnd c.block is_open.0 refl is_open.2 refl;
      number = ap (λ (x : OpenBlock). x.begun) same ∙ is_open.3;
    }

-- the lines end within a block
pub Stands-open : (ls : List Line) (out : List ℕ) (p : Progress) (b : OpenBlock) → Stands ls out p → p.block ≡ Some b → (cs : List Command) × (final : World) × Prints opening_world cs out final × IsFirstFault ls cs final b.begun
Stands-open ls out p b s e =
    (s.commands, s.world, s.prints, inl (ends_within p.block b ls s.before s.unended s.commands e s.all s.reads s.is_open))

ends_outside : (o : Option OpenBlock) (ls before unended : List Line) (cs : List Command) → o ≡ None → ls ≡ before ++ unended → Reads before cs → IsOpen unended (length before) o → Reads ls cs
ends_outside None ls before unended cs e all reads is_open = rw (all, is_open, append-nil before) reads
ends_outside (Some b) ls before unended cs e all reads is_open = absurd cc

-- the lines end after a command
pub Stands-closed : (ls : List Line) (out : List ℕ) (p : Progress) → Stands ls out p → p.block ≡ None → (cs : List Command) × Reads ls cs × IsOutput cs out
Stands-closed ls out p s e =
    (s.commands, ends_outside p.block ls s.before s.unended s.commands e s.all s.reads s.is_open, (s.world, s.prints))
