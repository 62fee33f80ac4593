use Rattle.std.proofs.Common.{sym, ◌∙◌}
use Rattle.ht_trace.specs.Pattern.{patterns_of}
use Rattle.ht_trace.specs.TraceEvents.{events}
use Rattle.trace_profiles.proofs.SamplingLemmas.{at_some, written_is}
use Rattle.trace_profiles.proofs.massif_run.MassifWriterTraceWriterSampling.write.Goals as goal

pub returns : goal.returns
returns g c = λ given lines tables stand.
    let settings = g.T.Settled.settings in
    let is = sym c.into_sampler.ensures ∙ c.in-Some.is in
    let settled = at_some _ c.in-Some.sampler _ is c.requires.follower_sound in
    let at = at_some _ c.in-Some.sampler _ is stand in
    written_is settings (patterns_of given) lines c.args.tables c.in-Some.sampler.samples.options c.command.result.now _
    _ c.in_ok-profile.profile tables.tables_is settled.options c.command.ensures
    (c.in_ok-profile.ensures.profile settings.names c.args.tables (events lines) at.sampling)
    c.in_ok-put_profile.ensures.appended c.new-output.ensures.items
