use Rattle.fab_store_base.proofs.OneKey.{one_key}
use Rattle.fab_store_base.proofs.laws.holds_keys.Goals as goal

pub returns : goal.returns
returns c tables w sound holds t r s r_in s_in same = one_key w sound t r s ((holds t r).0 r_in) ((holds t s).0 s_in) same
