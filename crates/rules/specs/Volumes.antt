-- What request [2] claims of the volumes in a request (proofs/demands/Volumes): which commands are refused, and which
-- pass the exchange rules. "Has" and "first" are said of the command's own list, the AVPs at depth 1.
use Rattle.std.specs.Prelude.{◌≡◌, ◌⊎◌, true, List, ℕ}
use Rattle.rules.specs.declared.Avp.{Avp}
use Rattle.rules.specs.Octets.{number_at}
use Rattle.rules.specs.Header.{vendor_3gpp, command_flags, is_request}
use Rattle.rules.specs.Search.{avp_in, FirstAvp, NoAvp}

-- there is an AVP with this vendor and code
abbrev pub Has : List Avp → ℕ → ℕ → Type 0
Has xs vendor code = (i : ℕ) × FirstAvp xs vendor code i

-- the volume of a direction: 412, uplink, or 414, downlink
abbrev pub HasDirection : List Avp → Type 0
HasDirection xs = (Has xs 0 412) ⊎ (Has xs 0 414)

-- no 421, or neither 412 nor 414
abbrev pub StandsAlone : List Avp → Type 0
StandsAlone xs = (NoAvp xs 0 421) ⊎ ((NoAvp xs 0 412) × (NoAvp xs 0 414))

-- a BTR whose 4203 has this value; xs are the AVPs of its walk
pub record RequestOfType (c : List ℕ) (xs : List Avp) (value : ℕ) : Type 0 where
  pub request : is_request (command_flags c) ≡ true
  pub position : ℕ
  pub typed : FirstAvp xs vendor_3gpp 4203 position
  pub valued : number_at 4 c (avp_in xs position).start ≡ value

-- a BTR with 4203 = 0 that has 532, and at position i its 421 together with 412 or 414
pub record TotalBeside (c : List ℕ) (xs : List Avp) (i : ℕ) : Type 0 where
  pub first : RequestOfType c xs 0
  pub provider : Has xs vendor_3gpp 532
  pub total : FirstAvp xs 0 421 i
  pub beside : HasDirection xs

-- a BTR with 4203 = 0 that has all that its exchange rules ask for
pub record CompleteFirst (c : List ℕ) (xs : List Avp) : Type 0 where
  pub first : RequestOfType c xs 0
  pub provider : Has xs vendor_3gpp 532
  pub volume : (Has xs 0 421) ⊎ (HasDirection xs)
  pub alone : StandsAlone xs
  pub number : Has xs vendor_3gpp 4209
  pub window : Has xs vendor_3gpp 4204

-- a BTR with 4203 = 1 likewise, whatever volumes it has
pub record CompleteLater (c : List ℕ) (xs : List Avp) : Type 0 where
  pub later : RequestOfType c xs 1
  pub reference : Has xs vendor_3gpp 4202
  pub policy : Has xs vendor_3gpp 4208
  pub host : Has xs 0 293
