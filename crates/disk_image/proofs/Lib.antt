mod Zeros
mod Contents
