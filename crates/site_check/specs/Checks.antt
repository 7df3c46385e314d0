-- What a check of a site answers and writes.
use Rattle.std.specs.Prelude.{◌≡◌, ℕ, List, [], ◌∷◌, ◌++◌, codes, Option, Result}
use Rattle.std.specs.Io.KnownBytes.{Appends}
use Rattle.site_opening.specs.Openings.{start_of, AreNamed, IsReadAs}
use Rattle.site_opening.specs.Statuses.{opening_status}
use Rattle.site_opening.specs.declared.fault.StartFault.{StartFault}
use Rattle.site_opening.specs.declared.opening.SiteFiles.{SiteFiles}
use Rattle.slp_text.specs.Ascii.{line_feed}
use Rattle.site_check.specs.SiteLines.{AreRead, SiteReads, site_lines, status_line}
use Rattle.site_check.specs.SiteStatus.{site_begun}

-- the status of what is read of some texts, as a server reads them before it starts
abbrev pub IsChecked : ℕ → Type 0
IsChecked status = (told : Result SiteFiles StartFault) × IsReadAs AreNamed start_of told × (status ≡ opening_status told)

-- known bytes grow by the lines of the site whose configuration has this path, and by the line of this status, which is that of the same reading of its files
abbrev pub AppendsCheck : Option (List ℕ) → Option (List ℕ) → List ℕ → ℕ → Type 0
AppendsCheck old new path status =
    (s : SiteReads) × AreRead s × (status ≡ opening_status (site_begun s)) × Appends old new (site_lines path s ++ status_line path status)

-- how the program is called, and its version
abbrev pub usage_text : List ℕ
usage_text = codes "usage: slpcheck CONFIG (slpda 0.9.0)" ++ line_feed ∷ []
