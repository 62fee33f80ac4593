-- The figures of a point by their keys. The figure of a key is that of its part, where the point
-- has it.
use Rattle.std.specs.Prelude.{ℕ, Bool, true, Option, Some}
use Rattle.std.specs.Option.{option_map}
use Rattle.dhat_json.specs.declared.key.Key.{Key}
use Rattle.dhat_json.specs.declared.key.Key.TheVariants as key
use Rattle.dhat_json.specs.declared.figure.FigureKey.{FigureKey}
use Rattle.dhat_json.specs.declared.figure.FigureKey.TheVariants.{Tb, Tbk, Tl, Gb, Gbk, Eb, Ebk, Rb, Wb}
use Rattle.dhat_json.specs.declared.profile.Point.{Point}
use Rattle.dhat_json.specs.declared.profile.Dhat.{Dhat}

abbrev pub figure_key : FigureKey → Key
figure_key Tb = key.Tb
figure_key Tbk = key.Tbk
figure_key Tl = key.Tl
figure_key Gb = key.Gb
figure_key Gbk = key.Gbk
figure_key Eb = key.Eb
figure_key Ebk = key.Ebk
figure_key Rb = key.Rb
figure_key Wb = key.Wb

-- the point's figure, where it has the part that the key is of
abbrev pub figure_of : FigureKey → Point → Option ℕ
figure_of Tb point = Some point.tb
figure_of Tbk point = Some point.tbk
figure_of Tl point = option_map (λ life. life.tl) point.life
figure_of Gb point = option_map (λ life. life.gb) point.life
figure_of Gbk point = option_map (λ life. life.gbk) point.life
figure_of Eb point = option_map (λ life. life.eb) point.life
figure_of Ebk point = option_map (λ life. life.ebk) point.life
figure_of Rb point = option_map (λ access. access.rb) point.access
figure_of Wb point = option_map (λ access. access.wb) point.access

-- the profile says that its points have the part that the key is of
abbrev pub has_figures : FigureKey → Dhat → Bool
has_figures Tb dhat = true
has_figures Tbk dhat = true
has_figures Tl dhat = dhat.bklt
has_figures Gb dhat = dhat.bklt
has_figures Gbk dhat = dhat.bklt
has_figures Eb dhat = dhat.bklt
has_figures Ebk dhat = dhat.bklt
has_figures Rb dhat = dhat.bkacc
has_figures Wb dhat = dhat.bkacc
