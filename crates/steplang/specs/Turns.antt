-- What a run returns.
use Rattle.std.specs.Prelude.{◌≡◌, []}
use Rattle.steptree.specs.Bodies.{Along, Asks}
use Rattle.steplang.specs.declared.outcome.Turn.{Turn}
use Rattle.steplang.specs.declared.outcome.Turn.TheVariants.{Need, Gave, Fault}
use Rattle.steplang.specs.Running.{Running, ValueOf, Over}

-- what a turn says of a run that was `old` and is now `new`: the item that the body asks for along its reads, or the puts that it
-- gave along them, or its fault; after puts or a fault the run is over, and has handed its reads out
abbrev pub Tells : Turn → Running → Running → Type 0
Tells (Need address) old new = Along old.checked.now.body old.instance.key old.reads (Asks address) × (new ≡ record old { awaits = ValueOf address })
Tells (Gave given) old new = (given.checked ≡ old.checked) × (given.instance ≡ old.instance) × (given.reads ≡ old.reads) × (new ≡ record old { reads = []; awaits = Over })
Tells (Fault bad) old new = (bad.checked ≡ old.checked) × (bad.instance ≡ old.instance) × (bad.reads ≡ old.reads) × (new ≡ record old { reads = []; awaits = Over })
