-- What is said of the descriptors that a server can need.
use Rattle.std.specs.Prelude.{ℕ, List, [], ◌∷◌, ◌++◌, codes, nat_lt, Option, Some, None, Result, if◌then◌else◌}
use Rattle.std.specs.Fmt.{decimal}
use Rattle.shown_text.specs.Shown.{shown}
use Rattle.site_opening.specs.Descriptors.{limit_read, needed_descriptors}
use Rattle.slp_text.specs.Ascii.{line_feed}
use Rattle.site_check.specs.Lines.{File, FewDescriptors, warning_line}

-- how many it needs
abbrev pub need_line : List ℕ → ℕ → List ℕ
need_line file need = shown file ++ codes ": slpda can need " ++ decimal need ++ codes " descriptors" ++ line_feed ∷ []

-- that there may be fewer
abbrev pub limit_line : List ℕ → ℕ → Option ℕ → List ℕ
limit_line file need None = []
limit_line file need (Some most) = if nat_lt most need then warning_line (File file) (FewDescriptors most need) else []

-- both, by what reading the limits of the process gave
abbrev pub descriptor_lines : {E : Type 0} → List ℕ → ℕ → ℕ → Result (List ℕ) E → List ℕ
descriptor_lines file addresses connections limits =
    let need = needed_descriptors addresses connections in
    need_line file need ++ limit_line file need (limit_read limits)
