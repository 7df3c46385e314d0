use Rattle.std.proofs.Common.{◌≡◌, List, ℕ, Option, Result, Ok, Err, IfOk, length, subst}
use Rattle.std.specs.Io.KnownBytes.{Appends}
use Rattle.std.proofs.KnownBytes.{Appends-trans}
use Rattle.site_check.specs.Descriptors.{descriptor_lines}
use Rattle.site_check.specs.ListenWarnings.{listen_lines}
use Rattle.site_check.specs.SiteLines.{AreNamed, SiteReads, named_file_lines, named_lines}
use Rattle.site_check.specs.SiteStatus.{named_begun}
use Rattle.site_config.specs.declared.config.Config.{Config}
use Rattle.site_opening.specs.Statuses.{opening_status}
use Rattle.site_opening.specs.declared.files.FileFault.{FileFault}
use Rattle.site_check.proofs.site.look_at_named.Goals as goal

-- what is written of the files comes behind what is written of the addresses and of the descriptors
behind : {E : Type 0} (r : Result ℕ E) (path : List ℕ) (config : Config) (old mid more new : Option (List ℕ)) → Appends old mid (listen_lines path config.listen)
    → (limits : Result (List ℕ) FileFault) → Appends mid more (descriptor_lines path (length config.listen) config.connections limits)
    → IfOk r (λ status. (s : SiteReads) × AreNamed s config × (status ≡ opening_status (named_begun s config)) × Appends more new (named_file_lines path s config))
    → IfOk r (λ status. (s : SiteReads) × AreNamed s config × (status ≡ opening_status (named_begun s config)) × Appends old new (named_lines path s config))
behind (Ok status) path config old mid more new before limits told h = (
  record { config = h.0.config; rules = h.0.rules; templates = h.0.templates; limits = limits },
  record { rules = h.1.rules; templates = h.1.templates },
  h.2,
  Appends-trans old more new _ (named_file_lines path h.0 config)
      (Appends-trans old mid more (listen_lines path config.listen) (descriptor_lines path (length config.listen) config.connections limits) before told) h.3,
)
behind (Err e) path config old mid more new before limits told h = tt

pub returns : goal.returns
returns g c =
    behind c.look_at_files.result c.args.path.now c.args.config.now _ _ _ _
    (subst (λ places. Appends (g.W.Write.contents c.args.writer.now) (g.W.Write.contents c.warn_of_listen.new.writer) (listen_lines c.args.path.now places)) c.as_slice.ensures c.in_ok-warn_of_listen.ensures)
    c.in_ok-tell_descriptors.ensures.0 c.in_ok-tell_descriptors.ensures.1
    c.look_at_files.ensures
