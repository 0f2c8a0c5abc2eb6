-- Endpoints of the worked cases, weighed by response time.
use Rattle.std.specs.Prelude.{◌*◌, ◌^◌, Float}
use Rattle.load.specs.declared.decay.Halving.{Halving}
use Rattle.load.specs.Decays.{halving_decays}
use Rattle.service.specs.Meaning.{endpoint_call}
use Rattle.workers.specs.declared.paced.Paced.{Paced}
use Rattle.workers.specs.Paces.{paced_serves, new_paced}
use Rattle.load.specs.declared.peak_ewma.PeakEwma.{PeakEwma}
use Rattle.load.specs.declared.settings.Settings.{Settings}
use Rattle.load.specs.PeakEwma.{from_settings, estimate_of, weight_at, peak_ewma}

-- a second for the default and for the decay period
abbrev pub one_second : Settings Halving
one_second = record { decay = record {}; default_rtt = 10 ^ 9; decay_period = 10 ^ 9 }

abbrev pub new_endpoint : PeakEwma Paced Halving
new_endpoint = from_settings new_paced one_second 0

-- asked at 0, and called with a request of no nanoseconds
abbrev pub with_one_more_out : PeakEwma Paced Halving → PeakEwma Paced Halving
with_one_more_out p =
    let ends = peak_ewma halving_decays paced_serves in
    (endpoint_call ends (ends.poll_ready p 0).after 0 0).after

abbrev pub with_three_out : PeakEwma Paced Halving
with_three_out = with_one_more_out (with_one_more_out (with_one_more_out new_endpoint))

-- the weight read at two seconds
abbrev pub weight_at_two_seconds : Float
weight_at_two_seconds = (weight_at halving_decays with_three_out (2 * 10 ^ 9)).nanos

-- the estimate after a request that was sent at 1.6 and completed at two seconds
abbrev pub estimate_at_two_seconds : Float
estimate_at_two_seconds =
    let ends = peak_ewma halving_decays paced_serves in
    (estimate_of (ends.finish new_endpoint (16 * 10 ^ 8) (2 * 10 ^ 9))).rtt_ns
