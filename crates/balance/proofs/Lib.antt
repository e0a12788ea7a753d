-- Laws and theorems of balances, and worked numbers. They hold nothing to believe.
pub mod BalanceLaws
pub mod SameLaws
pub mod BalanceTheorems
pub mod WorkedTheorems
