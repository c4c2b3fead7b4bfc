-- What request [9] claims of the transfer policies of an answer (proofs/demands/Policies): which answers are refused
-- for them, by the number of 4207 in the command's own list. xs are the AVPs of the command's walk.
use Rattle.std.specs.Prelude.{◌≡◌, false, List, ℕ, ◌≤◌, length}
use Rattle.rules.specs.Verdict.{no_refusal}
use Rattle.rules.specs.declared.Avp.{Avp}
use Rattle.rules.specs.Header.{vendor_3gpp, header_outcome, command_flags, is_request, is_error}
use Rattle.rules.specs.Walk.{whole}
use Rattle.rules.specs.Search.{first, how_many, NoAvp}
use Rattle.rules.specs.Exchange.{result_outcome}
use Rattle.rules.specs.Command.{walk_of}
use Rattle.rules.specs.Order.{own_rows, group_rows}
use Rattle.rules.specs.Volumes.{Has}

-- an answer without E
pub record IsAnswer (c : List ℕ) : Type 0 where
  pub not_request : is_request (command_flags c) ≡ false
  pub without_error : is_error (command_flags c) ≡ false

-- one that passes all checks before those of its policies, with at least so many of them
pub record Offers (c : List ℕ) (xs : List Avp) (least : ℕ) : Type 0 where
  pub header : header_outcome c ≡ no_refusal
  pub walk : walk_of c ≡ whole xs
  pub own : own_rows c xs ≡ no_refusal
  pub groups : group_rows c xs ≡ no_refusal
  pub answer : IsAnswer c
  pub result : result_outcome (first xs) xs (length c) ≡ no_refusal
  pub policies : least ≤ how_many 1 vendor_3gpp 4207 xs

-- with any 4207, and without 4202
pub record Unreferenced (c : List ℕ) (xs : List Avp) : Type 0 where
  pub offers : Offers c xs 1
  pub reference : NoAvp xs vendor_3gpp 4202

-- with two or more, with 4202 and without 2207
pub record Unaddressed (c : List ℕ) (xs : List Avp) : Type 0 where
  pub offers : Offers c xs 2
  pub reference : Has xs vendor_3gpp 4202
  pub address : NoAvp xs vendor_3gpp 2207

-- what the number of policies asks for is there
pub record Equipped (xs : List Avp) : Type 0 where
  pub reference : 1 ≤ how_many 1 vendor_3gpp 4207 xs → Has xs vendor_3gpp 4202
  pub address : 2 ≤ how_many 1 vendor_3gpp 4207 xs → Has xs vendor_3gpp 2207
