mod Units
mod Accounts
mod GivingUp
mod KeptText
mod KeptLeft
