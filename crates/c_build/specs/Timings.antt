-- When what takes over is heard.
use Rattle.net_tree.specs.Network.{Timing, at_once, delayed}
use Rattle.c_build.specs.declared.switches.Timing as D
use Rattle.c_build.specs.declared.switches.Timing.TheVariants as W

-- the timing that a switch is built with
abbrev pub timing_of : D.Timing → Timing
timing_of W.AtOnce = at_once
timing_of W.Delayed = delayed
